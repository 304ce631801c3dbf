use Rattle.std.proofs.Common.{ap, length}
use Rattle.std.proofs.Math.Nat.{sub-zero}
use Rattle.std.specs.List.{flat_map}
use Rattle.cqlp_text.proofs.Writing.{progress_ends, progress_goes_on, progress_starts, progress_stops}
use Rattle.cqlp_capture_summary.proofs.Lists.{upto_next, upto_none}
use Rattle.cqlp_capture_exchanges.specs.SummaryObjects.{object_at}
use Rattle.cqlp_capture_exchanges.proofs.summary_objects.put_known.Goals as goal

pub loop-place-init : goal.loop-place-init
loop-place-init g c = rw (sub-zero (length c.args.summary.now.names)) (progress_starts _ _)

pub returns-in_err-put_at : goal.returns-in_err-put_at
returns-in_err-put_at g c =
    progress_stops _ c.from_residual.result c.from_residual.ensures.0 c.loop-place.invariant
    (ap (flat_map (object_at c.args.by.now c.args.summary.now)) (upto_next c.loop-place.place (length c.args.summary.now.names) (rw c.len-place-end.ensures at c.loop-place-test.true)))
    c.in_err-put_at.ensures

pub loop-place-preserved : goal.loop-place-preserved
loop-place-preserved g c =
    progress_goes_on _ c.loop-place.invariant
    (ap (flat_map (object_at c.args.by.now c.args.summary.now)) (upto_next c.loop-place.place (length c.args.summary.now.names) (rw c.len-place-end.ensures at c.loop-place-test.true)))
    c.in_ok-put_at.ensures

pub returns : goal.returns
returns g c =
    progress_ends c.loop-place.invariant
    (ap (flat_map (object_at c.args.by.now c.args.summary.now)) (upto_none c.loop-place.place (length c.args.summary.now.names) (rw c.len-place-end.ensures at (c.loop-place-test.false))))
