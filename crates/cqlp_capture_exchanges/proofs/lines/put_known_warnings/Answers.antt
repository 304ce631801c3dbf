use Rattle.std.proofs.Common.{ap, decimal, refl}
use Rattle.cqlp_capture_exchanges.specs.WarningTexts.{other_texts}
use Rattle.cqlp_capture_exchanges.specs.declared.warning_texts.WarningForm.TheVariants as form
use Rattle.cqlp_text.proofs.Writing.{progress_starts}
use Rattle.cqlp_capture_exchanges.proofs.Texts.{said_last, said_next, said_stops}
use Rattle.cqlp_capture_exchanges.proofs.lines.put_known_warnings.Goals as goal

pub returns-in_err-put : goal.returns-in_err-put
returns-in_err-put g c =
    said_stops _ c.from_residual.result c.from_residual.ensures.0 (progress_starts _ _) refl refl c.in_err-put.ensures

pub returns-in_err-put_number : goal.returns-in_err-put_number
returns-in_err-put_number g c =
    let s1 = said_next _ (progress_starts _ _) refl refl c.in_ok-put.ensures in
    said_stops _ c.from_residual-in_err-put_number.result c.from_residual-in_err-put_number.ensures.0 s1 refl (ap decimal c.from.ensures) c.in_err-put_number.ensures

pub returns : goal.returns
returns g c =
    let s1 = said_next _ (progress_starts _ _) refl refl c.in_ok-put.ensures in
    let s2 = said_next _ s1 refl (ap decimal c.from.ensures) c.in_ok-put_number.ensures in
    said_last _ _ c.put_other_texts.result s2 refl (ap (other_texts form.Line) c.warnings_of-warnings.ensures) c.put_other_texts.ensures
