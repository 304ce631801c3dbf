use Rattle.std.proofs.Common.{◌≡◌, ◌+◌, ◌++◌, ◌∷◌, [], sym, ap, ◌∙◌, ◌&&◌, ℕ, length, ltb, subst, arith}
use Rattle.std.proofs.lemmas.Grind.{common_steps}
use Rattle.std.proofs.lemmas.List.{length-append}
use Rattle.std.specs.Prelude.{◌==◌}
use Rattle.std.specs.declared.string.String.{String}
use Rattle.std.specs.declared.alloc.Global.{Global}
use Rattle.cqlp_kind.specs.declared.kind.Kind.TheVariants as kind
use Rattle.cqlp_kind.specs.Types.{has_no_items, is_kind}
use Rattle.cqlp_kind.specs.CellStep.{Leave}
use Rattle.cqlp_type.specs.declared.tree.TypeTree.{TypeTree}
use Rattle.cqlp_type.specs.Trees.{kind_in, types_in}
use Rattle.cqlp_type.specs.TypeTrees.{head_of, inner_of, tree_of}
use Rattle.cqlp_value.specs.Measures.{listed_pairs, listed_values, types_by}
use Rattle.cqlp_value.specs.Owned.{atom_of, value_of}
use Rattle.cqlp_value.proofs.ReadBack.{with_others}
use Rattle.cqlp_build_cells.specs.declared.held.CellEvents.{CellEvents}
use Rattle.cqlp_build_cells.specs.declared.step.Step.TheVariants as step
use Rattle.cqlp_build_cells.specs.CellEvents.{Builds, any}
use Rattle.cqlp_build_cells.proofs.Built.{as_step, leave_step, list_built, map_built, no_step, none_inside, set_built, tuple_built, udt_built}
use Rattle.cqlp_build_cells.proofs.Fields.{first_end, first_more, first_over, first_stuck}
use Rattle.cqlp_build_cells.proofs.Inside.{empty_inside, null_inside, scalar_inside, value_built}
use Rattle.cqlp_build_cells.proofs.Several.{both_built, counted_built, counted_stuck, remains_more, remains_none, remains_stuck}
use Rattle.cqlp_build_cells.proofs.Steps.{some_of}
use Rattle.cqlp_build_cells.proofs.Types.{field_readable, keys_readable, list_readable, pairs_snoc, plain_readable, set_readable, tuple_readable, type_readable, udt_readable, values_readable, values_snoc}
use Rattle.cqlp_build_cells.proofs.held.CellEvents.+value.Goals as goal

pub value-returns-in-Some-Null-clause-is : goal.value-returns-in-Some-Null-clause-is
value-returns-in-Some-Null-clause-is t c =
    let k = kind_in (head_of c.args.tree.now) in
    let inner = types_in (inner_of c.args.tree.now) in
    value_built c.args.level step.Null k inner c.args.self.now c.next.new.self _ (as_step c.args.level _ step.Null c.args.self.now c.next.new.self c.in-Some-Null.field-0-is c.in-Some-Null.ensures.is) (null_inside c.args.level k inner c.next.new.self)

pub value-returns-in-Some-Empty-clause-is : goal.value-returns-in-Some-Empty-clause-is
value-returns-in-Some-Empty-clause-is t c =
    let k = kind_in (head_of c.args.tree.now) in
    let inner = types_in (inner_of c.args.tree.now) in
    value_built c.args.level step.Empty k inner c.args.self.now c.next.new.self _ (as_step c.args.level _ step.Empty c.args.self.now c.next.new.self c.in-Some-Empty.field-0-is c.in-Some-Empty.ensures.is) (empty_inside c.args.level k inner c.next.new.self)

pub value-returns-in-Some-Leaf-clause-is : goal.value-returns-in-Some-Leaf-clause-is
value-returns-in-Some-Leaf-clause-is t c =
    let k = kind_in (head_of c.args.tree.now) in
    let inner = types_in (inner_of c.args.tree.now) in
    rw c.scalar.ensures.value
    (value_built c.args.level (step.Leaf c.in-Some-Leaf.atom) k inner c.args.self.now c.next.new.self _ (as_step c.args.level _ (step.Leaf c.in-Some-Leaf.atom) c.args.self.now c.next.new.self c.in-Some-Leaf.field-0-is c.in-Some-Leaf.ensures.is) (scalar_inside c.args.level (atom_of c.in-Some-Leaf.atom) k inner c.scalar.ensures.is))

pub value-returns-in-Some-Enter-clause-is : goal.value-returns-in-Some-Enter-clause-is
value-returns-in-Some-Enter-clause-is t c =
    value_built c.args.level (step.Enter c.in-Some-Enter.kind c.in-Some-Enter.count) (kind_in (head_of c.args.tree.now)) (types_in (inner_of c.args.tree.now)) c.args.self.now c.next.new.self _ (as_step c.args.level _ (step.Enter c.in-Some-Enter.kind c.in-Some-Enter.count) c.args.self.now c.next.new.self c.in-Some-Enter.field-0-is c.in-Some-Enter.ensures.is) c.inside.ensures.is

pub value-returns-in-None-clause-is : goal.value-returns-in-None-clause-is
value-returns-in-None-clause-is t c =
    no_step c.args.level (kind_in (head_of c.args.tree.now)) (types_in (inner_of c.args.tree.now)) _ c.args.self.now c.next.new.self c.none-in-None.new.self c.in-None.ensures.is (ap (λ (h : CellEvents). h.fault) c.none-in-None.ensures)

-- ---- lists, sets and maps

pub items-returns-then-is_some-clause-is : goal.items-returns-then-is_some-clause-is
items-returns-then-is_some-clause-is t c =
    let f = some_of c.value-item.new.self.fault (sym c.is_some.ensures ∙ c.if-is_some.true) in
    let ts = types_in (tree_of c.args.inner.now) in
    let xs = listed_values c.loop.items.items in
    let x = value_of c.value-item.result in
    counted_stuck c.args.level ts c.args.count xs f.0 f.1
    (remains_stuck (c.args.level + 1) ts c.args.count c.args.self.now c.value-item.new.self (c.loop.counter + 1) (with_others xs x) xs f.0 (omega arith) f.1
    (remains_more (c.args.level + 1) ts c.args.count c.args.self.now c.loop.self c.value-item.new.self c.loop.counter xs x c.loop.invariant.remains c.value-item.ensures.is))

pub items-loop-preserved : goal.items-loop-preserved
items-loop-preserved t c =
    let e : c.push.new.self.items ≡ c.loop.items.items ++ c.value-item.result ∷ [] = grind (arith, common_steps, c.push.ensures.items, c.is_err.ensures) in
    record {
      remains = rw (e, values_snoc) (remains_more (c.args.level + 1) (types_in (tree_of c.args.inner.now)) c.args.count c.args.self.now c.loop.self c.value-item.new.self c.loop.counter (listed_values c.loop.items.items) (value_of c.value-item.result) c.loop.invariant.remains c.value-item.ensures.is);
      fewer = omega (arith, c.loop.invariant.fewer, c.value-item.ensures.fewer);
    }

pub items-returns-clause-is : goal.items-returns-clause-is
items-returns-clause-is t c =
    let ts = types_in (tree_of c.args.inner.now) in
    counted_built c.args.level ts c.args.count
    (remains_none (c.args.level + 1) ts c.args.count c.args.self.now c.loop.self c.loop.counter (listed_values c.loop.items.items) (omega arith) (omega arith) c.loop.invariant.remains) c.leave.ensures.is

pub pairs-returns-then-is_some-clause-is : goal.pairs-returns-then-is_some-clause-is
pairs-returns-then-is_some-clause-is t c =
    let f = some_of c.value-value.new.self.fault (sym c.is_some.ensures ∙ c.if-is_some.true) in
    let ts = types_by (λ (i : TypeTree). i) (c.args.keys.now ∷ c.args.values.now ∷ []) in
    let xs = listed_pairs c.loop.pairs.items in
    let x = with_others (value_of c.value-key.result) (value_of c.value-value.result) in
    let both = both_built (c.args.level + 1) (types_in (tree_of c.args.keys.now)) (types_in (tree_of c.args.values.now)) c.value-key.ensures.is c.value-value.ensures.is in
    counted_stuck c.args.level ts c.args.count xs f.0 f.1
    (remains_stuck (c.args.level + 1) ts c.args.count c.args.self.now c.value-value.new.self (c.loop.counter + 1) (with_others xs x) xs f.0 (omega arith) f.1
    (remains_more (c.args.level + 1) ts c.args.count c.args.self.now c.loop.self c.value-value.new.self c.loop.counter xs x c.loop.invariant.remains both))

pub pairs-loop-preserved : goal.pairs-loop-preserved
pairs-loop-preserved t c =
    let e : c.push.new.self.items ≡ c.loop.pairs.items ++ (c.value-key.result, c.value-value.result) ∷ [] = grind (arith, common_steps, c.push.ensures.items, c.is_err.ensures) in
    let ts = types_by (λ (i : TypeTree). i) (c.args.keys.now ∷ c.args.values.now ∷ []) in
    let x = with_others (value_of c.value-key.result) (value_of c.value-value.result) in
    let both = both_built (c.args.level + 1) (types_in (tree_of c.args.keys.now)) (types_in (tree_of c.args.values.now)) c.value-key.ensures.is c.value-value.ensures.is in
    record {
      remains = rw (e, pairs_snoc) (remains_more (c.args.level + 1) ts c.args.count c.args.self.now c.loop.self c.value-value.new.self c.loop.counter (listed_pairs c.loop.pairs.items) x c.loop.invariant.remains both);
      fewer = omega (arith, c.loop.invariant.fewer, c.value-key.ensures.fewer, c.value-value.ensures.fewer);
    }

pub pairs-returns-clause-is : goal.pairs-returns-clause-is
pairs-returns-clause-is t c =
    let ts = types_by (λ (i : TypeTree). i) (c.args.keys.now ∷ c.args.values.now ∷ []) in
    counted_built c.args.level ts c.args.count
    (remains_none (c.args.level + 1) ts c.args.count c.args.self.now c.loop.self c.loop.counter (listed_pairs c.loop.pairs.items) (omega arith) (omega arith) c.loop.invariant.remains) c.leave.ensures.is

-- ---- tuples and user-defined types

pub types-value-item-requires : goal.types-value-item-requires
types-value-item-requires t c = (
  omega (arith, c.decreases, c.loop-tree.invariant.fewer),
  (type_readable c.args.types.now c.loop-tree.tree-index c.tree-item.result c.tree-item.is c.loop-tree-test.true c.requires.readable, omega (arith, c.requires.deep, c.loop-tree.invariant.fewer)),
)

pub types-returns-then-is_at_leave-clause-is : goal.types-returns-then-is_at_leave-clause-is
types-returns-then-is_at_leave-clause-is t c =
    first_end c.args.level (λ (i : TypeTree). i) c.args.types.now c.args.self.now c.loop-tree.self c.leave.new.self c.loop-tree.tree-index (listed_values c.loop-tree.items.items)
    (sym c.is_at_leave.ensures ∙ c.if-is_at_leave.true) c.loop-tree.invariant.remains
    (subst (λ (n : ℕ). Builds {A = Unit {0}} (λ _. Leave c.args.level n ∷ []) any tt c.loop-tree.self c.leave.new.self) (omega (arith, c.len.ensures, c.loop-tree.invariant.many)) c.leave.ensures.is)

pub types-returns-then-is_some-clause-is : goal.types-returns-then-is_some-clause-is
types-returns-then-is_some-clause-is t c =
    let f = some_of c.value-item.new.self.fault (sym c.is_some.ensures ∙ c.if-is_some.true) in
    let xs = listed_values c.loop-tree.items.items in
    first_stuck c.args.level (λ (i : TypeTree). i) c.args.types.now c.args.self.now c.value-item.new.self (c.loop-tree.tree-index + 1) (with_others xs (value_of c.value-item.result)) xs f.0 f.1
    (first_more c.args.level (λ (i : TypeTree). i) c.args.types.now c.args.self.now c.loop-tree.self c.value-item.new.self c.loop-tree.tree-index c.tree-item.result xs (value_of c.value-item.result)
    c.tree-item.is c.loop-tree-test.true (sym c.is_at_leave.ensures ∙ c.if-is_at_leave.false) c.loop-tree.invariant.remains c.value-item.ensures.is)

pub types-loop-tree-preserved : goal.types-loop-tree-preserved
types-loop-tree-preserved t c =
    let e : c.push.new.self.items ≡ c.loop-tree.items.items ++ c.value-item.result ∷ [] = grind (arith, common_steps, c.push.ensures.items, c.is_err.ensures) in
    record {
      remains = rw (e, values_snoc)
          (first_more c.args.level (λ (i : TypeTree). i) c.args.types.now c.args.self.now c.loop-tree.self c.value-item.new.self c.loop-tree.tree-index c.tree-item.result (listed_values c.loop-tree.items.items) (value_of c.value-item.result)
          c.tree-item.is c.loop-tree-test.true (sym c.is_at_leave.ensures ∙ c.if-is_at_leave.false) c.loop-tree.invariant.remains c.value-item.ensures.is);
      many = omega (arith, ap length e, length-append c.loop-tree.items.items (c.value-item.result ∷ []), c.loop-tree.invariant.many);
      fewer = omega (arith, c.loop-tree.invariant.fewer, c.value-item.ensures.fewer);
    }

pub types-returns-clause-is : goal.types-returns-clause-is
types-returns-clause-is t c =
    first_over c.args.level (λ (i : TypeTree). i) c.args.types.now c.args.self.now c.loop-tree.self c.leave-2.new.self c.loop-tree.tree-index (listed_values c.loop-tree.items.items)
    (omega arith) c.loop-tree.invariant.remains
    (subst (λ (n : ℕ). Builds {A = Unit {0}} (λ _. Leave c.args.level n ∷ []) any tt c.loop-tree.self c.leave-2.new.self) (omega (arith, c.len-2.ensures, c.loop-tree.invariant.many)) c.leave-2.ensures.is)

pub fields-value-item-requires : goal.fields-value-item-requires
fields-value-item-requires t c = (
  omega (arith, c.decreases, c.loop-tree.invariant.fewer),
  (field_readable c.args.fields.now c.loop-tree.tree-index c.loop-tree-item.result c.loop-tree-item.is c.loop-tree-test.true c.requires.readable, omega (arith, c.requires.deep, c.loop-tree.invariant.fewer)),
)

pub fields-returns-then-is_at_leave-clause-is : goal.fields-returns-then-is_at_leave-clause-is
fields-returns-then-is_at_leave-clause-is t c =
    first_end c.args.level (λ (i : String Global × TypeTree). i.1) c.args.fields.now c.args.self.now c.loop-tree.self c.leave.new.self c.loop-tree.tree-index (listed_values c.loop-tree.items.items)
    (sym c.is_at_leave.ensures ∙ c.if-is_at_leave.true) c.loop-tree.invariant.remains
    (subst (λ (n : ℕ). Builds {A = Unit {0}} (λ _. Leave c.args.level n ∷ []) any tt c.loop-tree.self c.leave.new.self) (omega (arith, c.len.ensures, c.loop-tree.invariant.many)) c.leave.ensures.is)

pub fields-returns-then-is_some-clause-is : goal.fields-returns-then-is_some-clause-is
fields-returns-then-is_some-clause-is t c =
    let f = some_of c.value-item.new.self.fault (sym c.is_some.ensures ∙ c.if-is_some.true) in
    let xs = listed_values c.loop-tree.items.items in
    first_stuck c.args.level (λ (i : String Global × TypeTree). i.1) c.args.fields.now c.args.self.now c.value-item.new.self (c.loop-tree.tree-index + 1) (with_others xs (value_of c.value-item.result)) xs f.0 f.1
    (first_more c.args.level (λ (i : String Global × TypeTree). i.1) c.args.fields.now c.args.self.now c.loop-tree.self c.value-item.new.self c.loop-tree.tree-index c.loop-tree-item.result xs (value_of c.value-item.result)
    c.loop-tree-item.is c.loop-tree-test.true (sym c.is_at_leave.ensures ∙ c.if-is_at_leave.false) c.loop-tree.invariant.remains c.value-item.ensures.is)

pub fields-loop-tree-preserved : goal.fields-loop-tree-preserved
fields-loop-tree-preserved t c =
    let e : c.push.new.self.items ≡ c.loop-tree.items.items ++ c.value-item.result ∷ [] = grind (arith, common_steps, c.push.ensures.items, c.is_err.ensures) in
    record {
      remains = rw (e, values_snoc)
          (first_more c.args.level (λ (i : String Global × TypeTree). i.1) c.args.fields.now c.args.self.now c.loop-tree.self c.value-item.new.self c.loop-tree.tree-index c.loop-tree-item.result (listed_values c.loop-tree.items.items) (value_of c.value-item.result)
          c.loop-tree-item.is c.loop-tree-test.true (sym c.is_at_leave.ensures ∙ c.if-is_at_leave.false) c.loop-tree.invariant.remains c.value-item.ensures.is);
      many = omega (arith, ap length e, length-append c.loop-tree.items.items (c.value-item.result ∷ []), c.loop-tree.invariant.many);
      fewer = omega (arith, c.loop-tree.invariant.fewer, c.value-item.ensures.fewer);
    }

pub fields-returns-clause-is : goal.fields-returns-clause-is
fields-returns-clause-is t c =
    first_over c.args.level (λ (i : String Global × TypeTree). i.1) c.args.fields.now c.args.self.now c.loop-tree.self c.leave-2.new.self c.loop-tree.tree-index (listed_values c.loop-tree.items.items)
    (omega arith) c.loop-tree.invariant.remains
    (subst (λ (n : ℕ). Builds {A = Unit {0}} (λ _. Leave c.args.level n ∷ []) any tt c.loop-tree.self c.leave-2.new.self) (omega (arith, c.len-2.ensures, c.loop-tree.invariant.many)) c.leave-2.ensures.is)

-- ---- values after their first event

pub value-returns-in-Some-Leave-clause-is : goal.value-returns-in-Some-Leave-clause-is
value-returns-in-Some-Leave-clause-is t c =
    leave_step c.args.level (kind_in (head_of c.args.tree.now)) (types_in (inner_of c.args.tree.now)) _ _ c.args.self.now c.next.new.self c.none.new.self (as_step c.args.level _ (step.Leave _) c.args.self.now c.next.new.self c.in-Some-Leave.field-0-is c.in-Some-Leave.ensures.is) (ap (λ (h : CellEvents). h.fault) c.none.ensures)

pub inside-items-requires : goal.inside-items-requires
inside-items-requires t c = (
  omega (arith, c.decreases, c.check.ensures.fewer),
  (list_readable c.args.tree.now c.deref.result.now c.in-List.inner c.in-List.is c.deref.ensures c.requires.readable, omega (arith, c.requires.deep, c.check.ensures.fewer)),
)

pub inside-items-requires-in-Set : goal.inside-items-requires-in-Set
inside-items-requires-in-Set t c = (
  omega (arith, c.decreases, c.check-in-Set.ensures.fewer),
  (set_readable c.args.tree.now c.deref-in-Set.result.now c.in-Set.inner c.in-Set.is c.deref-in-Set.ensures c.requires.readable, omega (arith, c.requires.deep, c.check-in-Set.ensures.fewer)),
)

pub inside-pairs-requires : goal.inside-pairs-requires
inside-pairs-requires t c = (
  omega (arith, c.decreases, c.check-in-Map.ensures.fewer),
  (
    keys_readable c.args.tree.now c.deref-in-Map.result.now c.in-Map.keys c.in-Map.values c.in-Map.is c.deref-in-Map.ensures c.requires.readable,
    (values_readable c.args.tree.now c.deref-in-Map-2.result.now c.in-Map.keys c.in-Map.values c.in-Map.is c.deref-in-Map-2.ensures c.requires.readable, omega (arith, c.requires.deep, c.check-in-Map.ensures.fewer)),
  ),
)

pub inside-types-items-requires : goal.inside-types-items-requires
inside-types-items-requires t c = (
  omega (arith, c.decreases, c.check-in-Tuple.ensures.fewer),
  (tuple_readable c.args.tree.now c.in-Tuple.types c.deref-in-Tuple.result.now c.in-Tuple.is c.deref-in-Tuple.ensures.value c.requires.readable, omega (arith, c.requires.deep, c.check-in-Tuple.ensures.fewer)),
)

pub inside-fields-items-requires : goal.inside-fields-items-requires
inside-fields-items-requires t c = (
  omega (arith, c.decreases, c.check-in-Udt.ensures.fewer),
  (udt_readable c.args.tree.now c.in-Udt.keyspace c.in-Udt.name c.in-Udt.fields c.deref-in-Udt.result.now c.in-Udt.is c.deref-in-Udt.ensures.value c.requires.readable, omega (arith, c.requires.deep, c.check-in-Udt.ensures.fewer)),
)

pub inside-returns-in-List-clause-is : goal.inside-returns-in-List-clause-is
inside-returns-in-List-clause-is t c =
    list_built c.args.level c.args.kind c.args.count c.is_counted.result c.args.tree.now c.deref.result.now c.in-List.inner c.items.result c.in-List.is c.deref.ensures c.is_counted.ensures c.check.ensures.is c.items.ensures.is

pub inside-returns-in-Set-clause-is : goal.inside-returns-in-Set-clause-is
inside-returns-in-Set-clause-is t c =
    set_built c.args.level c.args.kind c.args.count c.is_counted-in-Set.result c.args.tree.now c.deref-in-Set.result.now c.in-Set.inner c.items-in-Set.result c.in-Set.is c.deref-in-Set.ensures c.is_counted-in-Set.ensures c.check-in-Set.ensures.is c.items-in-Set.ensures.is

pub inside-returns-in-Map-clause-is : goal.inside-returns-in-Map-clause-is
inside-returns-in-Map-clause-is t c =
    map_built c.args.level c.args.kind c.args.count c.is_counted-in-Map.result c.args.tree.now c.deref-in-Map.result.now c.deref-in-Map-2.result.now c.in-Map.keys c.in-Map.values c.pairs.result
    c.in-Map.is c.deref-in-Map.ensures c.deref-in-Map-2.ensures c.is_counted-in-Map.ensures c.check-in-Map.ensures.is c.pairs.ensures.is

pub inside-returns-in-Tuple-clause-is : goal.inside-returns-in-Tuple-clause-is
inside-returns-in-Tuple-clause-is t c =
    let many : c.len.result ≡ length c.deref-in-Tuple.result.now = omega (arith, c.len.ensures, ap length c.deref-in-Tuple.ensures.value) in
    tuple_built c.args.level c.args.kind c.args.count c.has_types.result c.args.tree.now c.in-Tuple.types c.deref-in-Tuple.result.now c.types-items.result c.has_some.result
    c.in-Tuple.is c.deref-in-Tuple.ensures.value (c.has_types.ensures ∙ ap (λ (m : ℕ). is_kind c.args.kind kind.Tuple && (c.args.count == m)) many) (c.has_some.ensures ∙ ap (λ xs. ltb 0 (length xs)) c.deref-in-Tuple-2.ensures.value)
    c.check-in-Tuple.ensures.is c.types-items.ensures.is c.check-in-Tuple-2.ensures.is

pub inside-returns-in-Udt-clause-is : goal.inside-returns-in-Udt-clause-is
inside-returns-in-Udt-clause-is t c =
    let many : c.len-in-Udt.result ≡ length c.deref-in-Udt.result.now = omega (arith, c.len-in-Udt.ensures, ap length c.deref-in-Udt.ensures.value) in
    udt_built c.args.level c.args.kind c.args.count c.has_types-in-Udt.result c.args.tree.now c.in-Udt.keyspace c.in-Udt.name c.in-Udt.fields c.deref-in-Udt.result.now c.fields-items.result c.has_some-in-Udt.result
    c.in-Udt.is c.deref-in-Udt.ensures.value (c.has_types-in-Udt.ensures ∙ ap (λ (m : ℕ). is_kind c.args.kind kind.Udt && (c.args.count == m)) many) (c.has_some-in-Udt.ensures ∙ ap (λ xs. ltb 0 (length xs)) c.deref-in-Udt-2.ensures.value)
    c.check-in-Udt.ensures.is c.fields-items.ensures.is c.check-in-Udt-2.ensures.is

pub inside-returns-in-Plain-clause-is : goal.inside-returns-in-Plain-clause-is
inside-returns-in-Plain-clause-is t c =
    none_inside c.args.level c.args.kind (kind_in (head_of c.args.tree.now)) c.args.count (types_in (inner_of c.args.tree.now)) _ c.args.self.now c.none.new.self
    (ap (λ (x : TypeTree). has_no_items (kind_in (head_of x))) c.in-Plain.is ∙ plain_readable c.args.tree.now _ c.in-Plain.is c.requires.readable) (ap (λ (h : CellEvents). h.fault) c.none.ensures)

pub inside-returns-in-Custom-clause-is : goal.inside-returns-in-Custom-clause-is
inside-returns-in-Custom-clause-is t c =
    none_inside c.args.level c.args.kind (kind_in (head_of c.args.tree.now)) c.args.count (types_in (inner_of c.args.tree.now)) _ c.args.self.now c.none-in-Custom.new.self
    (ap (λ (x : TypeTree). has_no_items (kind_in (head_of x))) c.in-Custom.is) (ap (λ (h : CellEvents). h.fault) c.none-in-Custom.ensures)
