use Rattle.std.proofs.Common.{refl}
use Rattle.cqlp_text.proofs.Writing.{progress_starts}
use Rattle.cqlp_capture_exchanges.proofs.Texts.{said_last, said_next, said_stops}
use Rattle.cqlp_capture_exchanges.proofs.warning_texts.put_in_field.Goals as goal

pub returns-in_err-put : goal.returns-in_err-put
returns-in_err-put g c =
    said_stops _ c.from_residual.result c.from_residual.ensures.0 (progress_starts _ _) refl refl c.in_err-put.ensures

pub returns : goal.returns
returns g c =
    let s1 = said_next _ (progress_starts _ _) refl refl c.in_ok-put.ensures in
    said_last _ _ c.put_shown_in_field.result s1 refl refl c.put_shown_in_field.ensures
