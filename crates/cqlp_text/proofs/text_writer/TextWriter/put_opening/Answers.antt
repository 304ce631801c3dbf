use Rattle.std.proofs.Common.{◌∙◌, sym, refl}
use Rattle.cqlp_text.proofs.Pages.{last_part}
use Rattle.cqlp_text.proofs.Writing.{progress_starts, progress_goes_on, progress_stops}
use Rattle.cqlp_text.proofs.text_writer.TextWriter.put_opening.Goals as goal

pub returns-in_err-put_before : goal.returns-in_err-put_before
returns-in_err-put_before g c =
    progress_stops _ c.from_residual.result c.from_residual.ensures.0 (progress_starts _ _) refl c.in_err-put_before.ensures

pub returns : goal.returns
returns g c =
    let s1 = progress_goes_on _ (progress_starts _ _) refl c.in_ok-put_before.ensures in
    last_part _ c.put.result s1 (sym (c.as_bytes.ensures.value ∙ c.opening.ensures)) c.put.ensures
