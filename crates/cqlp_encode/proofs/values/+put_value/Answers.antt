use Rattle.std.proofs.Common.{◌≡◌, ◌<◌, length, arith}
use Rattle.std.proofs.lemmas.List.{take_all}
use Rattle.cqlp_value.proofs.OwnedLists.{list_is, set_is, map_is, tuple_is, udt_is}
use Rattle.cqlp_encode.proofs.KeptValues.{whole_put, flushed_put}
use Rattle.cqlp_encode.proofs.Contents.{within_nil, known_put, counted_inside, fields_inside, value_put, pair_put}
use Rattle.cqlp_encode.proofs.values.+put_value.Goals as goal

pub put_nested-returns-then-keep_whole : goal.put_nested-returns-then-keep_whole
put_nested-returns-then-keep_whole g t c = whole_put _ _ _ _ (c.keep_whole.ensures.kept c.if-keep_whole.true)

pub put_nested-returns-then-waiting-le256 : goal.put_nested-returns-then-waiting-le256
put_nested-returns-then-waiting-le256 g t c = rw (c.keep_whole.ensures.none c.if-keep_whole.false) at c.put_measured.ensures

pub put_nested-returns-then-not-keep_whole : goal.put_nested-returns-then-not-keep_whole
put_nested-returns-then-not-keep_whole g t c =
    let many : 256 < length c.keep_whole.new.out.waiting = omega (arith, c.waiting.ensures, c.if-waiting-le256.false) in
    let measured = rw (c.keep_whole-2.ensures.none c.if-not-keep_whole.true) at c.put_measured-then-not-keep_whole.ensures in
    flushed_put _ _ _ _ _ _ (c.keep_whole.ensures.none c.if-keep_whole.false) many c.flush.ensures measured

pub put_nested-returns-else-not-keep_whole : goal.put_nested-returns-else-not-keep_whole
put_nested-returns-else-not-keep_whole g t c =
    let many : 256 < length c.keep_whole.new.out.waiting = omega (arith, c.waiting.ensures, c.if-waiting-le256.false) in
    let second = whole_put _ _ _ _ (c.keep_whole-2.ensures.kept c.if-not-keep_whole.false) in
    flushed_put _ _ _ _ _ _ (c.keep_whole.ensures.none c.if-keep_whole.false) many c.flush.ensures second

pub put_measured-returns-in_default : goal.put_measured-returns-in_default
put_measured-returns-in_default g t c = known_put c.args.value.now _ _ _ _ c.in_default.not-Null c.requires c.put_count32.ensures c.put_inside.ensures

pub put_inside-returns-in-List : goal.put_inside-returns-in-List
put_inside-returns-in-List g t c =
    let items = rw c.deref.ensures.value at c.put_values.ensures in
    let many : c.len.result ≡ length c.in-List.items.items = omega arith in
    let count = rw many at c.put_count32.ensures in
    rw c.in-List.is (counted_inside _ _ _ _ _ _ _ (list_is c.in-List.items) count items)

pub put_inside-returns-in-Set : goal.put_inside-returns-in-Set
put_inside-returns-in-Set g t c =
    let items = rw c.deref-in-Set.ensures.value at c.put_values-in-Set.ensures in
    let many : c.len-in-Set.result ≡ length c.in-Set.items.items = omega arith in
    let count = rw many at c.put_count32-in-Set.ensures in
    rw c.in-Set.is (counted_inside _ _ _ _ _ _ _ (set_is c.in-Set.items) count items)

pub put_inside-returns-in-Map : goal.put_inside-returns-in-Map
put_inside-returns-in-Map g t c =
    let items = rw c.deref-in-Map.ensures.value at c.put_pairs.ensures in
    let many : c.len-in-Map.result ≡ length c.in-Map.pairs.items = omega arith in
    let count = rw many at c.put_count32-in-Map.ensures in
    rw c.in-Map.is (counted_inside _ _ _ _ _ _ _ (map_is c.in-Map.pairs) count items)

pub put_inside-returns-in-Tuple : goal.put_inside-returns-in-Tuple
put_inside-returns-in-Tuple g t c =
    let items = rw c.deref-in-Tuple.ensures.value at c.put_values-in-Tuple.ensures in
    rw c.in-Tuple.is (fields_inside _ _ _ _ _ (tuple_is c.in-Tuple.items) items)

pub put_inside-returns-in-Udt : goal.put_inside-returns-in-Udt
put_inside-returns-in-Udt g t c =
    let items = rw c.deref-in-Udt.ensures.value at c.put_values-in-Udt.ensures in
    rw c.in-Udt.is (fields_inside _ _ _ _ _ (udt_is c.in-Udt.items) items)

pub put_values-loop-value-init : goal.put_values-loop-value-init
put_values-loop-value-init g t c = within_nil _

pub put_values-loop-value-preserved : goal.put_values-loop-value-preserved
put_values-loop-value-preserved g t c = value_put _ _ _ _ _ _ c.value-item.is c.loop-value-test.true c.loop-value.invariant c.put_value.ensures

pub put_values-returns : goal.put_values-returns
put_values-returns g t c = rw (take_all, c.loop-value-test.false) at c.loop-value.invariant

pub put_pairs-loop-key-init : goal.put_pairs-loop-key-init
put_pairs-loop-key-init g t c = within_nil _

pub put_pairs-loop-key-preserved : goal.put_pairs-loop-key-preserved
put_pairs-loop-key-preserved g t c = pair_put _ _ _ _ _ _ _ c.loop-key-item.is c.loop-key-test.true c.loop-key.invariant c.put_value.ensures c.put_value-in-loop-key.ensures

pub put_pairs-returns : goal.put_pairs-returns
put_pairs-returns g t c = rw (take_all, c.loop-key-test.false) at c.loop-key.invariant
