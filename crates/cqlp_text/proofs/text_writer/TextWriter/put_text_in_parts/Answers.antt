use Rattle.std.proofs.Common.{refl}
use Rattle.cqlp_text.proofs.Pages.{last_part}
use Rattle.cqlp_text.proofs.Writing.{progress_starts, progress_goes_on, progress_stops}
use Rattle.cqlp_text.proofs.text_writer.TextWriter.put_text_in_parts.Goals as goal

pub returns-in_err-put_gap : goal.returns-in_err-put_gap
returns-in_err-put_gap g c = progress_stops _ c.from_residual.result c.from_residual.ensures.0 (progress_starts _ _) refl c.in_err-put_gap.ensures

pub returns-in_err-put_quoted : goal.returns-in_err-put_quoted
returns-in_err-put_quoted g c =
    let s1 = progress_goes_on _ (progress_starts _ _) refl c.in_ok-put_gap.ensures in
    progress_stops _ c.from_residual-in_err-put_quoted.result c.from_residual-in_err-put_quoted.ensures.0 s1 refl c.in_err-put_quoted.ensures

pub returns : goal.returns
returns g c =
    let s1 = progress_goes_on _ (progress_starts _ _) refl c.in_ok-put_gap.ensures in
    let s2 = progress_goes_on _ s1 refl c.in_ok-put_quoted.ensures in
    last_part _ c.put_row_end.result s2 refl c.put_row_end.ensures
