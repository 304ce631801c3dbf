use Rattle.std.proofs.Common.{refl}
use Rattle.cqlp_text.proofs.Writing.{progress_starts}
use Rattle.cqlp_capture_exchanges.proofs.Texts.{said_last, said_next, said_stops}
use Rattle.cqlp_capture_exchanges.proofs.object.put_known_warnings.Goals as goal

pub returns-in_err-put_warning_as : goal.returns-in_err-put_warning_as
returns-in_err-put_warning_as g c =
    said_stops _ c.from_residual.result c.from_residual.ensures.0 (progress_starts _ _) refl refl c.in_err-put_warning_as.ensures

pub returns : goal.returns
returns g c =
    let s1 = said_next _ (progress_starts _ _) refl refl c.in_ok-put_warning_as.ensures in
    said_last _ _ c.put_texts_members.result s1 refl refl c.put_texts_members.ensures
