use Rattle.std.proofs.Common.{◌∙◌, ◌+◌, ◌-◌, ap, max, refl, sym}
use Rattle.std.proofs.Math.Nat.{sub-zero}
use Rattle.cqlp_capture_summary.specs.Histograms.{most_with}
use Rattle.cqlp_capture_summary.specs.Order.{upto}
use Rattle.cqlp_capture_summary.proofs.Lists.{upto_next, upto_none}
use Rattle.cqlp_capture_summary.proofs.histogram.most_in.Goals as goal

pub loop-range-init : goal.loop-range-init
loop-range-init c = rw (sub-zero c.args.ranges) refl

pub loop-range-preserved : goal.loop-range-preserved
loop-range-preserved c =
    ap (λ most. most_with most c.args.buckets.now (upto (c.loop-range.range + 1) (c.args.ranges - (c.loop-range.range + 1))))
    (c.max-most.ensures ∙ ap (max c.loop-range.most) c.count_in.ensures)
    ∙ sym (ap (most_with c.loop-range.most c.args.buckets.now) (upto_next c.loop-range.range c.args.ranges c.loop-range-test.true))
    ∙ c.loop-range.invariant

pub returns : goal.returns
returns c =
    sym (ap (most_with c.loop-range.most c.args.buckets.now) (upto_none c.loop-range.range c.args.ranges c.loop-range-test.false))
    ∙ c.loop-range.invariant
