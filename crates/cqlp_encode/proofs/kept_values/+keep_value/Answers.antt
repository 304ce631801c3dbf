use Rattle.std.proofs.Common.{length}
use Rattle.cqlp_value.proofs.OwnedLists.{list_is, set_is, map_is, tuple_is, udt_is}
use Rattle.cqlp_encode.proofs.KeptValues.{counted_kept, fields_kept, counted_with_length, value_kept, pair_kept}
use Rattle.cqlp_encode.proofs.kept_values.+keep_value.Goals as goal

pub keep_items-returns : goal.keep_items-returns
keep_items-returns g t c =
    let front = rw (c.if-not-keep_few.false, c.to_be_bytes.ensures) at c.keep_few.ensures in
    let items = rw c.if-not-keep_values.false at c.keep_values.ensures in
    counted_with_length _ _ _ _ (length c.args.items.now) _ _ c.waiting-start.ensures front items c.write_length.ensures

pub keep_entries-returns : goal.keep_entries-returns
keep_entries-returns g t c =
    let front = rw (c.if-not-keep_few.false, c.to_be_bytes.ensures) at c.keep_few.ensures in
    let pairs = rw c.if-not-keep_pairs.false at c.keep_pairs.ensures in
    counted_with_length _ _ _ _ (length c.args.pairs.now) _ _ c.waiting-start.ensures front pairs c.write_length.ensures

pub keep_nested-returns-in-List : goal.keep_nested-returns-in-List
keep_nested-returns-in-List g t c =
    let items = rw c.deref.ensures.value at c.keep_items.ensures in
    rw c.in-List.is (counted_kept _ _ _ _ _ _ _ (list_is c.in-List.items) items)

pub keep_nested-returns-in-Set : goal.keep_nested-returns-in-Set
keep_nested-returns-in-Set g t c =
    let items = rw c.deref-in-Set.ensures.value at c.keep_items-in-Set.ensures in
    rw c.in-Set.is (counted_kept _ _ _ _ _ _ _ (set_is c.in-Set.items) items)

pub keep_nested-returns-in-Map : goal.keep_nested-returns-in-Map
keep_nested-returns-in-Map g t c =
    let pairs = rw c.deref-in-Map.ensures.value at c.keep_entries.ensures in
    rw c.in-Map.is (counted_kept _ _ _ _ _ _ _ (map_is c.in-Map.pairs) pairs)

pub keep_nested-returns-in-Tuple : goal.keep_nested-returns-in-Tuple
keep_nested-returns-in-Tuple g t c =
    let fields = rw c.deref-in-Tuple.ensures.value at c.keep_fields.ensures in
    rw c.in-Tuple.is (fields_kept _ _ _ _ _ _ (tuple_is c.in-Tuple.items) fields)

pub keep_nested-returns-in-Udt : goal.keep_nested-returns-in-Udt
keep_nested-returns-in-Udt g t c =
    let fields = rw c.deref-in-Udt.ensures.value at c.keep_fields-in-Udt.ensures in
    rw c.in-Udt.is (fields_kept _ _ _ _ _ _ (udt_is c.in-Udt.items) fields)

pub keep_values-loop-value-preserved : goal.keep_values-loop-value-preserved
keep_values-loop-value-preserved g t c =
    let one = rw c.if-not-keep_value.false at c.keep_value.ensures in
    value_kept _ _ _ _ _ _ c.value-item.is c.loop-value-test.true c.loop-value.invariant one

pub keep_pairs-loop-key-preserved : goal.keep_pairs-loop-key-preserved
keep_pairs-loop-key-preserved g t c =
    let key = rw c.if-not-keep_value.false at c.keep_value.ensures in
    let value = rw c.if-not-keep_value-2.false at c.keep_value-in-loop-key.ensures in
    pair_kept _ _ _ _ _ _ _ c.loop-key-item.is c.loop-key-test.true c.loop-key.invariant key value
