use Rattle.std.proofs.Common.{ap}
use Rattle.std.specs.List.{flat_map}
use Rattle.cqlp_text.proofs.Writing.{progress_ends, progress_starts}
use Rattle.cqlp_capture_summary.specs.Histograms.{most_in, row}
use Rattle.cqlp_capture_summary.proofs.Lists.{upto_next, upto_none}
use Rattle.cqlp_capture_summary.proofs.Texts.{said_next, said_stops}
use Rattle.cqlp_capture_summary.proofs.histogram.put_rows.Goals as goal

pub loop-range-init : goal.loop-range-init
loop-range-init g c = progress_starts _ _

pub returns-in_err-put_row : goal.returns-in_err-put_row
returns-in_err-put_row g c =
    said_stops _ c.from_residual.result c.from_residual.ensures.0 c.loop-range.invariant
    (ap (flat_map (row c.args.buckets.now c.args.timed (most_in c.args.buckets.now 60))) (upto_next c.loop-range.range c.args.end c.loop-range-test.true))
    (ap (λ most. row c.args.buckets.now c.args.timed most c.loop-range.range) c.most_in-most.ensures) c.in_err-put_row.ensures

pub loop-range-preserved : goal.loop-range-preserved
loop-range-preserved g c =
    said_next _ c.loop-range.invariant
    (ap (flat_map (row c.args.buckets.now c.args.timed (most_in c.args.buckets.now 60))) (upto_next c.loop-range.range c.args.end c.loop-range-test.true))
    (ap (λ most. row c.args.buckets.now c.args.timed most c.loop-range.range) c.most_in-most.ensures) c.in_ok-put_row.ensures

pub returns : goal.returns
returns g c =
    progress_ends c.loop-range.invariant
    (ap (flat_map (row c.args.buckets.now c.args.timed (most_in c.args.buckets.now 60))) (upto_none c.loop-range.range c.args.end c.loop-range-test.false))
