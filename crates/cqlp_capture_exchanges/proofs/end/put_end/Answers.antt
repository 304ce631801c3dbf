use Rattle.std.proofs.Common.{ap, decimal, refl}
use Rattle.cqlp_text.proofs.Writing.{progress_starts}
use Rattle.cqlp_capture_exchanges.proofs.Texts.{said_last, said_next, said_stops}
use Rattle.cqlp_capture_exchanges.proofs.end.put_end.Goals as goal

pub returns-in_err-put_host : goal.returns-in_err-put_host
returns-in_err-put_host g c =
    said_stops _ c.from_residual.result c.from_residual.ensures.0 (progress_starts _ _) refl refl c.in_err-put_host.ensures

pub returns-in_err-put : goal.returns-in_err-put
returns-in_err-put g c =
    let s1 = said_next _ (progress_starts _ _) refl refl c.in_ok-put_host.ensures in
    said_stops _ c.from_residual-in_err-put.result c.from_residual-in_err-put.ensures.0 s1 refl refl c.in_err-put.ensures

pub returns : goal.returns
returns g c =
    let s1 = said_next _ (progress_starts _ _) refl refl c.in_ok-put_host.ensures in
    let s2 = said_next _ s1 refl refl c.in_ok-put.ensures in
    said_last _ _ c.put_number.result s2 refl (ap decimal c.from.ensures) c.put_number.ensures
