use Rattle.std.proofs.Common.{refl}
use Rattle.cqlp_text.proofs.Pages.{last_part}
use Rattle.cqlp_text.proofs.Writing.{progress_starts, progress_goes_on, progress_stops}
use Rattle.cqlp_text.proofs.text_writer.TextWriter.put_truth.Goals as goal

pub returns-in_err-put_before : goal.returns-in_err-put_before
returns-in_err-put_before g c =
    progress_stops _ c.from_residual.result c.from_residual.ensures.0 (progress_starts _ _) refl c.in_err-put_before.ensures

pub returns-in_err-put_boolean : goal.returns-in_err-put_boolean
returns-in_err-put_boolean g c =
    let s1 = progress_goes_on _ (progress_starts _ _) refl c.in_ok-put_before.ensures in
    progress_stops _ c.from_residual-in_err-put_boolean.result c.from_residual-in_err-put_boolean.ensures.0 s1 refl c.in_err-put_boolean.ensures

pub returns : goal.returns
returns g c =
    let s1 = progress_goes_on _ (progress_starts _ _) refl c.in_ok-put_before.ensures in
    let s2 = progress_goes_on _ s1 refl c.in_ok-put_boolean.ensures in
    last_part _ c.put_row_end.result s2 c.ends_row.ensures c.put_row_end.ensures
