use Rattle.cqlp_text.proofs.Writing.{progress_goes_on, progress_stops}
use Rattle.cqlp_capture_exchanges.proofs.Members.{reasons_at}
use Rattle.cqlp_capture_exchanges.proofs.losses.put_each.Goals as goal

pub returns-in_err-put_reason : goal.returns-in_err-put_reason
returns-in_err-put_reason g c =
    progress_stops _ c.from_residual.result c.from_residual.ensures.0 c.loop-reason.invariant (reasons_at c.args.reasons.now c.loop-reason.reason-index _ c.loop-reason-test.true) c.in_err-put_reason.ensures

pub loop-reason-preserved : goal.loop-reason-preserved
loop-reason-preserved g c =
    progress_goes_on _ c.loop-reason.invariant (reasons_at c.args.reasons.now c.loop-reason.reason-index _ c.loop-reason-test.true) c.in_ok-put_reason.ensures
