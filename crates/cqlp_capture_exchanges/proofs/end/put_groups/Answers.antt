use Rattle.std.proofs.Common.{refl}
use Rattle.cqlp_text.proofs.Writing.{progress_goes_on, progress_starts, progress_stops}
use Rattle.cqlp_capture_exchanges.proofs.Ends.{first_group, group_at}
use Rattle.cqlp_capture_exchanges.proofs.end.put_groups.Goals as goal

pub returns-in_err-put_segment : goal.returns-in_err-put_segment
returns-in_err-put_segment g c =
    progress_stops _ c.from_residual.result c.from_residual.ensures.0 (progress_starts _ _) (first_group c.args.segments.now c.in-len1-up.len_at_least) c.in_err-put_segment.ensures

pub loop-segment-init : goal.loop-segment-init
loop-segment-init g c =
    progress_goes_on _ (progress_starts _ _) (first_group c.args.segments.now c.in-len1-up.len_at_least) c.in_ok-put_segment.ensures

pub returns-in_err-put : goal.returns-in_err-put
returns-in_err-put g c =
    progress_stops _ c.from_residual-in_err-put.result c.from_residual-in_err-put.ensures.0 c.loop-segment.invariant (group_at _ c.loop-segment.segment-index 0 c.loop-segment-test.true) c.in_err-put.ensures

pub returns-in_err-put_segment-2 : goal.returns-in_err-put_segment-2
returns-in_err-put_segment-2 g c =
    let colon = progress_goes_on _ c.loop-segment.invariant (group_at _ c.loop-segment.segment-index _ c.loop-segment-test.true) c.in_ok-put.ensures in
    progress_stops _ c.from_residual-in_err-put_segment-2.result c.from_residual-in_err-put_segment-2.ensures.0 colon refl c.in_err-put_segment-2.ensures

pub loop-segment-preserved : goal.loop-segment-preserved
loop-segment-preserved g c =
    let colon = progress_goes_on _ c.loop-segment.invariant (group_at _ c.loop-segment.segment-index _ c.loop-segment-test.true) c.in_ok-put.ensures in
    progress_goes_on _ colon refl c.in_ok-put_segment-2.ensures
