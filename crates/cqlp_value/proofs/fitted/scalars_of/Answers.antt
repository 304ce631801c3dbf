use Rattle.std.proofs.Common.{◌≡◌, ◌+◌, ◌&&◌, true, Bool, drop, ap, ◌∙◌, arith}
use Rattle.cqlp_type.specs.declared.tree.TypeTree.{TypeTree, Plain}
use Rattle.cqlp_value.specs.Measures.{all_fit, fits_tree}
use Rattle.cqlp_value.proofs.ValueFits.{items_next}
use Rattle.cqlp_value.proofs.ValueSizes.{size_next}
use Rattle.cqlp_value.proofs.ValueRanges.{range_next}
use Rattle.cqlp_value.proofs.fitted.scalars_of.Goals as goal

pub loop-item-preserved : goal.loop-item-preserved
loop-item-preserved c =
    let i = c.loop-item.item-index in
    let items = c.args.items.now in
    let tree : TypeTree = Plain c.args.kind in
    let v = c.item-item.result in
    let next = items_next tree items i v c.item-item.is c.loop-item-test.true in
    let fit : fits_tree v tree ≡ true = rw c.in-Some.is at c.leaf_size.ensures.fits in
    let more = rw c.in-Some.is at c.leaf_size.ensures.size in
    let sum = size_next items i v c.item-item.is c.loop-item-test.true in
    let before = c.loop-item.invariant.1.0 in
    let range = range_next items i v c.item-item.is c.loop-item-test.true c.loop-item.invariant.1.1 (rw c.in-Some.is at c.leaf_size.ensures.range) in
    (c.loop-item.invariant.0 ∙ next ∙ ap (λ (b : Bool). b && all_fit tree (drop (i + 1) items)) fit, (omega arith, range))
