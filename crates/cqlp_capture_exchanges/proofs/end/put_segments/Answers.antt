use Rattle.std.proofs.Common.{refl}
use Rattle.cqlp_text.proofs.Writing.{progress_starts}
use Rattle.cqlp_capture_exchanges.proofs.Ends.{compressed, plain}
use Rattle.cqlp_capture_exchanges.proofs.Texts.{said_last, said_next, said_stops}
use Rattle.cqlp_capture_exchanges.proofs.end.put_segments.Goals as goal

pub returns-in_err-put_groups : goal.returns-in_err-put_groups
returns-in_err-put_groups g c =
    said_stops _ c.from_residual.result c.from_residual.ensures.0 (progress_starts _ _) (compressed c.args.segments.now _ c.longest_zero_run-start.ensures.value c.if-len-gt1.true) refl c.in_err-put_groups.ensures

pub returns-in_err-put : goal.returns-in_err-put
returns-in_err-put g c =
    let s1 = said_next _ (progress_starts _ _) (compressed c.args.segments.now _ c.longest_zero_run-start.ensures.value c.if-len-gt1.true) refl c.in_ok-put_groups.ensures in
    said_stops _ c.from_residual-in_err-put.result c.from_residual-in_err-put.ensures.0 s1 refl refl c.in_err-put.ensures

pub returns-in_ok-put : goal.returns-in_ok-put
returns-in_ok-put g c =
    let s1 = said_next _ (progress_starts _ _) (compressed c.args.segments.now _ c.longest_zero_run-start.ensures.value c.if-len-gt1.true) refl c.in_ok-put_groups.ensures in
    let s2 = said_next _ s1 refl refl c.in_ok-put.ensures in
    said_last _ _ c.put_groups-then-len-gt1.result s2 refl refl c.put_groups-then-len-gt1.ensures

pub returns-else-len-gt1 : goal.returns-else-len-gt1
returns-else-len-gt1 g c =
    said_last _ _ c.put_groups-else-len-gt1.result (progress_starts _ _) (plain c.args.segments.now _ c.longest_zero_run-start.ensures.value c.if-len-gt1.false) refl c.put_groups-else-len-gt1.ensures
