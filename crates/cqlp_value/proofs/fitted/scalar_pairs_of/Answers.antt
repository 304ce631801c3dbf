use Rattle.std.proofs.Common.{◌≡◌, ◌+◌, ◌&&◌, true, Bool, drop, ap, ◌∙◌, arith}
use Rattle.cqlp_type.specs.declared.tree.TypeTree.{TypeTree, Plain}
use Rattle.cqlp_value.specs.Measures.{all_pairs_fit, fits_tree}
use Rattle.cqlp_value.proofs.ValueFits.{pairs_next}
use Rattle.cqlp_value.proofs.ValueSizes.{pair_next}
use Rattle.cqlp_value.proofs.ValueRanges.{pair_range_next}
use Rattle.cqlp_value.proofs.fitted.scalar_pairs_of.Goals as goal

pub loop-key-preserved : goal.loop-key-preserved
loop-key-preserved c =
    let i = c.loop-key.key-index in
    let pairs = c.args.pairs.now in
    let keys : TypeTree = Plain c.args.keys in
    let values : TypeTree = Plain c.args.values in
    let x = c.loop-key-item.result in
    let rest = all_pairs_fit keys values (drop (i + 1) pairs) in
    let next = c.loop-key.invariant.0 ∙ pairs_next keys values pairs i x c.loop-key-item.is c.loop-key-test.true in
    let key : fits_tree x.0 keys ≡ true = rw c.in-Some.is at c.leaf_size.ensures.fits in
    let value : fits_tree x.1 values ≡ true = rw c.in-Some-leaf_size.is at c.leaf_size-in-loop-key.ensures.fits in
    let of_key = rw c.in-Some.is at c.leaf_size.ensures.size in
    let of_value = rw c.in-Some-leaf_size.is at c.leaf_size-in-loop-key.ensures.size in
    let sum = pair_next pairs i x c.loop-key-item.is c.loop-key-test.true in
    let before = c.loop-key.invariant.1.0 in
    let range = pair_range_next pairs i x c.loop-key-item.is c.loop-key-test.true c.loop-key.invariant.1.1 (rw c.in-Some.is at c.leaf_size.ensures.range) (rw c.in-Some-leaf_size.is at c.leaf_size-in-loop-key.ensures.range) in
    (next ∙ ap (λ (b : Bool). b && (fits_tree x.1 values && rest)) key ∙ ap (λ (b : Bool). b && rest) value, (omega arith, range))
