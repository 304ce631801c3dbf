use Rattle.std.proofs.Common.{◌≡◌, ◌+◌, ◌&&◌, ◌^◌, true, false, Bool, ltb, length, is_some, drop, sym, subst, ap, ◌∙◌, arith}
use Rattle.cqlp_value.specs.declared.value.Value.{Value}
use Rattle.cqlp_value.specs.Measures.{all_fit, all_pairs_fit, fits_tree, listed_values, listed_pairs}
use Rattle.cqlp_value.specs.Owned.{value_of}
use Rattle.cqlp_value.specs.Values.{AreInRange, values_size}
use Rattle.cqlp_value.proofs.ValueFits.{items_next, pairs_next}
use Rattle.cqlp_value.proofs.ValueSizes.{size_next, pair_next, list_size, set_size, map_size}
use Rattle.cqlp_value.proofs.ValueRanges.{range_next, pair_range_next, list_range, set_range, map_range}
use Rattle.cqlp_value.proofs.CountedSizes.{list_fits_in, set_fits_in, map_fits_in, counted_range, counted_size}
use Rattle.cqlp_value.proofs.fitted.+fitting_size.Goals as goal

pub each_size_in-loop-item-preserved : goal.each_size_in-loop-item-preserved
each_size_in-loop-item-preserved t c =
    let i = c.loop-item.item-index in
    let items = c.args.items.now in
    let tree = c.args.tree.now in
    let v = c.item-item.result in
    let next = items_next tree items i v c.item-item.is c.loop-item-test.true in
    let fit : fits_tree v tree ≡ true = sym (rw c.in-Some.is at c.size_in.ensures.fits) in
    let more = rw c.in-Some.is at c.size_in.ensures.size in
    let sum = size_next items i v c.item-item.is c.loop-item-test.true in
    let before = c.loop-item.invariant.1.0 in
    let range = range_next items i v c.item-item.is c.loop-item-test.true c.loop-item.invariant.1.1 (rw c.in-Some.is at c.size_in.ensures.range) in
    (c.loop-item.invariant.0 ∙ next ∙ ap (λ (b : Bool). b && all_fit tree (drop (i + 1) items)) fit, (omega arith, range))

pub each_size_in-returns-in-None-clause-fits : goal.each_size_in-returns-in-None-clause-fits
each_size_in-returns-in-None-clause-fits t c =
    let i = c.loop-item.item-index in
    let items = c.args.items.now in
    let tree = c.args.tree.now in
    let v = c.item-item.result in
    let next = items_next tree items i v c.item-item.is c.loop-item-test.true in
    let unfit : fits_tree v tree ≡ false = sym (rw c.in-None.is at c.size_in.ensures.fits) in
    sym (c.loop-item.invariant.0 ∙ next ∙ ap (λ (b : Bool). b && all_fit tree (drop (i + 1) items)) unfit)

pub each_pair_size_in-returns-in-None-clause-fits : goal.each_pair_size_in-returns-in-None-clause-fits
each_pair_size_in-returns-in-None-clause-fits t c =
    let i = c.loop-key.key-index in
    let pairs = c.args.pairs.now in
    let keys = c.args.keys.now in
    let values = c.args.values.now in
    let x = c.loop-key-item.result in
    let rest = all_pairs_fit keys values (drop (i + 1) pairs) in
    let next = c.loop-key.invariant.0 ∙ pairs_next keys values pairs i x c.loop-key-item.is c.loop-key-test.true in
    let key : fits_tree x.0 keys ≡ false = sym (rw c.in-None.is at c.size_in.ensures.fits) in
    sym (next ∙ ap (λ (b : Bool). b && (fits_tree x.1 values && rest)) key)

pub each_pair_size_in-returns-in-None-size_in-clause-fits : goal.each_pair_size_in-returns-in-None-size_in-clause-fits
each_pair_size_in-returns-in-None-size_in-clause-fits t c =
    let i = c.loop-key.key-index in
    let pairs = c.args.pairs.now in
    let keys = c.args.keys.now in
    let values = c.args.values.now in
    let x = c.loop-key-item.result in
    let rest = all_pairs_fit keys values (drop (i + 1) pairs) in
    let next = c.loop-key.invariant.0 ∙ pairs_next keys values pairs i x c.loop-key-item.is c.loop-key-test.true in
    let key : fits_tree x.0 keys ≡ true = sym (rw c.in-Some.is at c.size_in.ensures.fits) in
    let value : fits_tree x.1 values ≡ false = sym (rw c.in-None-size_in.is at c.size_in-in-loop-key.ensures.fits) in
    sym (next ∙ ap (λ (b : Bool). b && (fits_tree x.1 values && rest)) key ∙ ap (λ (b : Bool). b && rest) value)

pub each_pair_size_in-loop-key-preserved : goal.each_pair_size_in-loop-key-preserved
each_pair_size_in-loop-key-preserved t c =
    let i = c.loop-key.key-index in
    let pairs = c.args.pairs.now in
    let keys = c.args.keys.now in
    let values = c.args.values.now in
    let x = c.loop-key-item.result in
    let rest = all_pairs_fit keys values (drop (i + 1) pairs) in
    let next = c.loop-key.invariant.0 ∙ pairs_next keys values pairs i x c.loop-key-item.is c.loop-key-test.true in
    let key : fits_tree x.0 keys ≡ true = sym (rw c.in-Some.is at c.size_in.ensures.fits) in
    let value : fits_tree x.1 values ≡ true = sym (rw c.in-Some-size_in.is at c.size_in-in-loop-key.ensures.fits) in
    let of_key = rw c.in-Some.is at c.size_in.ensures.size in
    let of_value = rw c.in-Some-size_in.is at c.size_in-in-loop-key.ensures.size in
    let sum = pair_next pairs i x c.loop-key-item.is c.loop-key-test.true in
    let before = c.loop-key.invariant.1.0 in
    let range = pair_range_next pairs i x c.loop-key-item.is c.loop-key-test.true c.loop-key.invariant.1.1 (rw c.in-Some.is at c.size_in.ensures.range) (rw c.in-Some-size_in.is at c.size_in-in-loop-key.ensures.range) in
    (next ∙ ap (λ (b : Bool). b && (fits_tree x.1 values && rest)) key ∙ ap (λ (b : Bool). b && rest) value, (omega arith, range))

pub any_size_in-returns-in-List-tree-clause-fits : goal.any_size_in-returns-in-List-tree-clause-fits
any_size_in-returns-in-List-tree-clause-fits t c =
    let items = c.in-List.items in
    let inner = c.in-List-tree.inner in
    let n : c.len.result ≡ length items.items = omega arith in
    let fits : fits_tree c.args.value.now c.args.tree.now ≡ (ltb (length items.items) (2 ^ 31) && all_fit inner.value items.items) = rw (c.in-List.is, c.in-List-tree.is) (list_fits_in items inner) in
    let each : is_some c.items_size_in.result ≡ all_fit inner.value items.items = rw (c.deref.ensures.value, c.deref-in-List-tree.ensures) at c.items_size_in.ensures.fits in
    rw (n, each) at c.counted.ensures.fits ∙ sym fits

pub any_size_in-returns-in-List-tree-clause-size : goal.any_size_in-returns-in-List-tree-clause-size
any_size_in-returns-in-List-tree-clause-size t c =
    let whole = ap (λ (x : Value). values_size (value_of x)) c.in-List.is ∙ list_size c.in-List.items in
    let inner = rw c.deref.ensures.value at c.items_size_in.ensures.size in
    counted_size _ c.items_size_in.result c.counted.result _ _ c.counted.ensures.fits whole inner c.counted.ensures.size

pub any_size_in-returns-in-List-tree-clause-range : goal.any_size_in-returns-in-List-tree-clause-range
any_size_in-returns-in-List-tree-clause-range t c =
    let inner = rw c.deref.ensures.value at c.items_size_in.ensures.range in
    let in_range = λ (r : AreInRange (listed_values c.in-List.items.items)). subst (λ (x : Value). AreInRange (value_of x)) (sym c.in-List.is) (list_range c.in-List.items r) in
    counted_range _ c.items_size_in.result c.counted.result c.counted.ensures.fits in_range inner

pub any_size_in-returns-in-Set-tree-clause-fits : goal.any_size_in-returns-in-Set-tree-clause-fits
any_size_in-returns-in-Set-tree-clause-fits t c =
    let items = c.in-Set.items in
    let inner = c.in-Set-tree.inner in
    let n : c.len-in-Set-tree.result ≡ length items.items = omega arith in
    let fits : fits_tree c.args.value.now c.args.tree.now ≡ (ltb (length items.items) (2 ^ 31) && all_fit inner.value items.items) = rw (c.in-Set.is, c.in-Set-tree.is) (set_fits_in items inner) in
    let each : is_some c.items_size_in-in-Set-tree.result ≡ all_fit inner.value items.items = rw (c.deref-in-Set-tree.ensures.value, c.deref-in-Set-tree-2.ensures) at c.items_size_in-in-Set-tree.ensures.fits in
    rw (n, each) at c.counted-in-Set-tree.ensures.fits ∙ sym fits

pub any_size_in-returns-in-Set-tree-clause-size : goal.any_size_in-returns-in-Set-tree-clause-size
any_size_in-returns-in-Set-tree-clause-size t c =
    let whole = ap (λ (x : Value). values_size (value_of x)) c.in-Set.is ∙ set_size c.in-Set.items in
    let inner = rw c.deref-in-Set-tree.ensures.value at c.items_size_in-in-Set-tree.ensures.size in
    counted_size _ c.items_size_in-in-Set-tree.result c.counted-in-Set-tree.result _ _ c.counted-in-Set-tree.ensures.fits whole inner c.counted-in-Set-tree.ensures.size

pub any_size_in-returns-in-Set-tree-clause-range : goal.any_size_in-returns-in-Set-tree-clause-range
any_size_in-returns-in-Set-tree-clause-range t c =
    let inner = rw c.deref-in-Set-tree.ensures.value at c.items_size_in-in-Set-tree.ensures.range in
    let in_range = λ (r : AreInRange (listed_values c.in-Set.items.items)). subst (λ (x : Value). AreInRange (value_of x)) (sym c.in-Set.is) (set_range c.in-Set.items r) in
    counted_range _ c.items_size_in-in-Set-tree.result c.counted-in-Set-tree.result c.counted-in-Set-tree.ensures.fits in_range inner

pub any_size_in-returns-in-Map-tree-clause-fits : goal.any_size_in-returns-in-Map-tree-clause-fits
any_size_in-returns-in-Map-tree-clause-fits t c =
    let pairs = c.in-Map.pairs in
    let keys = c.in-Map-tree.keys in
    let values = c.in-Map-tree.values in
    let n : c.len-in-Map-tree.result ≡ length pairs.items = omega arith in
    let fits : fits_tree c.args.value.now c.args.tree.now ≡ (ltb (length pairs.items) (2 ^ 31) && all_pairs_fit keys.value values.value pairs.items) = rw (c.in-Map.is, c.in-Map-tree.is) (map_fits_in pairs keys values) in
    let each : is_some c.pairs_size_in.result ≡ all_pairs_fit keys.value values.value pairs.items = rw (c.deref-in-Map-tree.ensures.value, c.deref-in-Map-tree-2.ensures, c.deref-in-Map-tree-3.ensures) at c.pairs_size_in.ensures.fits in
    rw (n, each) at c.counted-in-Map-tree.ensures.fits ∙ sym fits

pub any_size_in-returns-in-Map-tree-clause-size : goal.any_size_in-returns-in-Map-tree-clause-size
any_size_in-returns-in-Map-tree-clause-size t c =
    let whole = ap (λ (x : Value). values_size (value_of x)) c.in-Map.is ∙ map_size c.in-Map.pairs in
    let inner = rw c.deref-in-Map-tree.ensures.value at c.pairs_size_in.ensures.size in
    counted_size _ c.pairs_size_in.result c.counted-in-Map-tree.result _ _ c.counted-in-Map-tree.ensures.fits whole inner c.counted-in-Map-tree.ensures.size

pub any_size_in-returns-in-Map-tree-clause-range : goal.any_size_in-returns-in-Map-tree-clause-range
any_size_in-returns-in-Map-tree-clause-range t c =
    let inner = rw c.deref-in-Map-tree.ensures.value at c.pairs_size_in.ensures.range in
    let in_range = λ (r : AreInRange (listed_pairs c.in-Map.pairs.items)). subst (λ (x : Value). AreInRange (value_of x)) (sym c.in-Map.is) (map_range c.in-Map.pairs r) in
    counted_range _ c.pairs_size_in.result c.counted-in-Map-tree.result c.counted-in-Map-tree.ensures.fits in_range inner
