use Rattle.std.proofs.Common.{ap, refl}
use Rattle.cqlp_capture_exchanges.specs.declared.span.Unit.TheVariants.{Millisecond}
use Rattle.cqlp_capture_exchanges.specs.Times.{time_text}
use Rattle.cqlp_text.proofs.Writing.{progress_starts}
use Rattle.cqlp_capture_exchanges.proofs.Texts.{said_last, said_next, said_stops}
use Rattle.cqlp_capture_exchanges.proofs.lines.put_took.Goals as goal

pub returns-in_err-put : goal.returns-in_err-put
returns-in_err-put g c =
    said_stops _ c.from_residual.result c.from_residual.ensures.0 (progress_starts _ _) refl refl c.in_err-put.ensures

pub returns-in_err-put_time : goal.returns-in_err-put_time
returns-in_err-put_time g c =
    let s1 = said_next _ (progress_starts _ _) refl refl c.in_ok-put.ensures in
    said_stops _ c.from_residual-in_err-put_time.result c.from_residual-in_err-put_time.ensures.0 s1 refl (ap (time_text Millisecond) c.took-took.ensures) c.in_err-put_time.ensures

pub returns : goal.returns
returns g c =
    let s1 = said_next _ (progress_starts _ _) refl refl c.in_ok-put.ensures in
    let s2 = said_next _ s1 refl (ap (time_text Millisecond) c.took-took.ensures) c.in_ok-put_time.ensures in
    said_last _ _ c.put-2.result s2 refl refl c.put-2.ensures
