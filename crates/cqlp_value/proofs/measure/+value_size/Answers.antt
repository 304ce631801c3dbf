use Rattle.std.proofs.Common.{◌∙◌, subst, sym, ap, arith}
use Rattle.cqlp_value.specs.declared.value.Value.{Value}
use Rattle.cqlp_value.specs.Values.{AreInRange, values_size}
use Rattle.cqlp_value.specs.Owned.{value_of}
use Rattle.cqlp_value.proofs.ValueSizes.{size_next, pair_next, list_size, set_size, map_size, tuple_size, udt_size}
use Rattle.cqlp_value.proofs.ValueRanges.{range_next, pair_range_next, list_range, set_range, map_range, tuple_range, udt_range}
use Rattle.cqlp_value.proofs.measure.+value_size.Goals as goal

pub items_size-loop-item-preserved : goal.items_size-loop-item-preserved
items_size-loop-item-preserved t c =
    let next = size_next c.args.items.now c.loop-item.item-index c.item-item.result c.item-item.is c.loop-item-test.true in
    let size = c.loop-item.invariant.0 in
    let range = range_next c.args.items.now c.loop-item.item-index c.item-item.result c.item-item.is c.loop-item-test.true c.loop-item.invariant.1 c.value_size.ensures.range in
    (omega arith, range)

pub pairs_size-loop-key-preserved : goal.pairs_size-loop-key-preserved
pairs_size-loop-key-preserved t c =
    let next = pair_next c.args.pairs.now c.loop-key.key-index c.loop-key-item.result c.loop-key-item.is c.loop-key-test.true in
    let size = c.loop-key.invariant.0 in
    let range = pair_range_next c.args.pairs.now c.loop-key.key-index c.loop-key-item.result c.loop-key-item.is c.loop-key-test.true c.loop-key.invariant.1 c.value_size.ensures.range c.value_size-in-loop-key.ensures.range in
    (omega arith, range)

pub any_size-returns-in-List-clause-size : goal.any_size-returns-in-List-clause-size
any_size-returns-in-List-clause-size t c =
    let whole = ap (λ (x : Value). values_size (value_of x)) c.in-List.is ∙ list_size c.in-List.items in
    let inner = rw c.deref.ensures.value at c.items_size.ensures.size in
    omega arith

pub any_size-returns-in-Set-clause-size : goal.any_size-returns-in-Set-clause-size
any_size-returns-in-Set-clause-size t c =
    let whole = ap (λ (x : Value). values_size (value_of x)) c.in-Set.is ∙ set_size c.in-Set.items in
    let inner = rw c.deref-in-Set.ensures.value at c.items_size-in-Set.ensures.size in
    omega arith

pub any_size-returns-in-Map-clause-size : goal.any_size-returns-in-Map-clause-size
any_size-returns-in-Map-clause-size t c =
    let whole = ap (λ (x : Value). values_size (value_of x)) c.in-Map.is ∙ map_size c.in-Map.pairs in
    let inner = rw c.deref-in-Map.ensures.value at c.pairs_size.ensures.size in
    omega arith

pub any_size-returns-in-Tuple-clause-size : goal.any_size-returns-in-Tuple-clause-size
any_size-returns-in-Tuple-clause-size t c =
    let whole = ap (λ (x : Value). values_size (value_of x)) c.in-Tuple.is ∙ tuple_size c.in-Tuple.items in
    let inner = rw c.deref-in-Tuple.ensures.value at c.items_size-in-Tuple.ensures.size in
    omega arith

pub any_size-returns-in-Udt-clause-size : goal.any_size-returns-in-Udt-clause-size
any_size-returns-in-Udt-clause-size t c =
    let whole = ap (λ (x : Value). values_size (value_of x)) c.in-Udt.is ∙ udt_size c.in-Udt.items in
    let inner = rw c.deref-in-Udt.ensures.value at c.items_size-in-Udt.ensures.size in
    omega arith

pub any_size-returns-in-List-clause-range : goal.any_size-returns-in-List-clause-range
any_size-returns-in-List-clause-range t c = subst (λ (x : Value). AreInRange (value_of x)) (sym c.in-List.is) (list_range c.in-List.items (rw c.deref.ensures.value at c.items_size.ensures.range))

pub any_size-returns-in-Set-clause-range : goal.any_size-returns-in-Set-clause-range
any_size-returns-in-Set-clause-range t c = subst (λ (x : Value). AreInRange (value_of x)) (sym c.in-Set.is) (set_range c.in-Set.items (rw c.deref-in-Set.ensures.value at c.items_size-in-Set.ensures.range))

pub any_size-returns-in-Map-clause-range : goal.any_size-returns-in-Map-clause-range
any_size-returns-in-Map-clause-range t c = subst (λ (x : Value). AreInRange (value_of x)) (sym c.in-Map.is) (map_range c.in-Map.pairs (rw c.deref-in-Map.ensures.value at c.pairs_size.ensures.range))

pub any_size-returns-in-Tuple-clause-range : goal.any_size-returns-in-Tuple-clause-range
any_size-returns-in-Tuple-clause-range t c = subst (λ (x : Value). AreInRange (value_of x)) (sym c.in-Tuple.is) (tuple_range c.in-Tuple.items (rw c.deref-in-Tuple.ensures.value at c.items_size-in-Tuple.ensures.range))

pub any_size-returns-in-Udt-clause-range : goal.any_size-returns-in-Udt-clause-range
any_size-returns-in-Udt-clause-range t c = subst (λ (x : Value). AreInRange (value_of x)) (sym c.in-Udt.is) (udt_range c.in-Udt.items (rw c.deref-in-Udt.ensures.value at c.items_size-in-Udt.ensures.range))
