use Rattle.std.proofs.Common.{◌≡◌, ℕ, ◌+◌, ◌-◌, ◌<◌, List, ◌++◌, length, refl, ap, ◌∙◌, arith}
use Rattle.cqlp_type.specs.Trees.{tree_bytes}
use Rattle.cqlp_type.specs.TypeTrees.{tree_of}
use Rattle.cqlp_type_tables.proofs.Reading.{begins, goes_on, rest_is, whole_nodes, idle_again, never_waits, never_refused}
use Rattle.cqlp_type_tables.proofs.making.add_type.Goals as goal

pub items-init : goal.items-init
items-init g c =
    let t = tree_of c.args.tree.now in
    let wrote : c.put_tree.new.out.items ≡ tree_bytes t = c.in_ok-put_tree.ensures ∙ ap (λ (x : List ℕ). x ++ tree_bytes t) c.clear.ensures.items in
    let long : c.len.result ≡ length c.put_tree.new.out.items = omega arith in (
      wrote,
      omega arith,
      refl,
      begins c.args.reader.now c.begin.new.self c.args.partial.now c.args.table.now t c.put_tree.new.out.items c.len.result wrote long c.begin.ensures.is c.requires.idle (c.begin.ensures.reads _ _ c.requires.types) c.requires.read,
    )

pub items-smaller : goal.items-smaller
items-smaller g c =
    let bytes = c.put_tree.new.out.items in
    let i = c.items.invariant in
    let rest = rest_is c.deref.result.now bytes c.items.start c.deref.ensures.value in
    let next = goes_on _ _ bytes _ c.items.start _ _ _ refl i.3 rest i.1 _ _ _ _ _ _ c.in-Item.ensures.is c.in-Item.ensures.leaves in
    let less : length bytes - (c.items.start + c.in-Item.used) < length bytes - c.items.start = omega (arith, next.1, next.2) in
    less

pub items-preserved : goal.items-preserved
items-preserved g c =
    let bytes = c.put_tree.new.out.items in
    let i = c.items.invariant in
    let rest = rest_is c.deref.result.now bytes c.items.start c.deref.ensures.value in
    let next = goes_on _ _ bytes _ c.items.start _ _ _ refl i.3 rest i.1 _ _ _ _ _ _ c.in-Item.ensures.is c.in-Item.ensures.leaves in
    (i.0, next.2, c.in-Item.ensures.is.table ∙ i.2, next.0)

pub returns-in-Done-clause-table : goal.returns-in-Done-clause-table
returns-in-Done-clause-table g c =
    let i = c.items.invariant in
    let d = c.in-Done.ensures.is in
    let nodes = whole_nodes _ _ _ _ _ _ refl i.3 d.0 in
    d.4 ∙ (λ k. record { nodes = nodes k; room = i.2 k })

pub returns-in-Done-clause-idle : goal.returns-in-Done-clause-idle
returns-in-Done-clause-idle g c =
    let i = c.items.invariant in
    let d = c.in-Done.ensures.is in
    idle_again _ _ _ _ _ _ refl i.3 _ _ d.1 d.2 d.3

pub unreachable-requires : goal.unreachable-requires
unreachable-requires g c =
    let i = c.items.invariant in
    let rest = rest_is c.deref.result.now c.put_tree.new.out.items c.items.start c.deref.ensures.value in
    never_waits _ _ _ _ _ _ refl i.3 _ rest _ _ _ _ c.in-More.ensures.is

pub unreachable-requires-in-Refused : goal.unreachable-requires-in-Refused
unreachable-requires-in-Refused g c =
    let i = c.items.invariant in
    let rest = rest_is c.deref.result.now c.put_tree.new.out.items c.items.start c.deref.ensures.value in
    never_refused _ _ _ _ _ _ refl i.3 _ rest _ c.in-Refused.ensures.is.0
