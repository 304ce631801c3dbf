use Rattle.std.proofs.Common.{refl}
use Rattle.cqlp_text.proofs.Writing.{progress_starts, progress_goes_on, progress_stops, progress_writes}
use Rattle.cqlp_text.proofs.text_writer.TextWriter.put_content_part.Goals as goal

pub returns-in_err-put_content_start : goal.returns-in_err-put_content_start
returns-in_err-put_content_start g c =
    progress_stops _ c.from_residual.result c.from_residual.ensures.0 (progress_starts _ _) refl c.in_err-put_content_start.ensures

pub returns-in_err-put_hex : goal.returns-in_err-put_hex
returns-in_err-put_hex g c =
    let start = progress_goes_on _ (progress_starts _ _) refl c.in_ok-put_content_start.ensures in
    progress_stops _ c.from_residual-in_err-put_hex.result c.from_residual-in_err-put_hex.ensures.0 start refl c.in_err-put_hex.ensures

pub returns : goal.returns
returns g c =
    let start = progress_goes_on _ (progress_starts _ _) refl c.in_ok-put_content_start.ensures in
    let bytes = progress_goes_on _ start refl c.in_ok-put_hex.ensures in
    progress_writes _ c.put_content_end.result bytes c.put_content_end.ensures
