use Rattle.std.proofs.Common.{◌≡◌, ◌<◌, List, length, ap, sym, arith}
use Rattle.std.proofs.lemmas.Bool.{eqb-false}
use Rattle.cqlp_kind.specs.declared.node.Node.{Node}
use Rattle.cqlp_type.specs.Table.{Table}
use Rattle.cqlp_type.proofs.Nodes.{length_with_arity, arity_set}
use Rattle.cqlp_type.proofs.table.TypeTable.set_arity.Goals as goal

pub returns-then-not-is_empty : goal.returns-then-not-is_empty
returns-then-not-is_empty g c =
    let items = c.self.inside.nodes.items in
    let size : c.len-last.result ≡ length items = omega arith in
    let some = eqb-false _ _ (sym c.if-not-is_empty.ensures) in
    let within : 0 < length items = omega (arith, some) in
    let table : List Node → Table = λ m. record { nodes = m; room = c.self.inside.room } in
    rw (← c.self.view_is, size) (ap table (arity_set items c.args.arity c.index_mut.result.now (rw size at c.index_mut.ensures.value) within))

pub invariant_of-self : goal.invariant_of-self
invariant_of-self g c =
    let items = c.self.inside.nodes.items in
    let size : c.len-last.result ≡ length items = omega arith in
    let some = eqb-false _ _ (sym c.if-not-is_empty.ensures) in
    let within : 0 < length items = omega (arith, some) in
    let is = arity_set items c.args.arity c.index_mut.result.now (rw size at c.index_mut.ensures.value) within in
    rw (size, is) (c.self.invariant.0, c.self.invariant.1, (rw length_with_arity c.self.invariant.2.0, rw (← c.self.view_is) at c.requires))
