use Rattle.std.proofs.Common.{refl}
use Rattle.cqlp_text.proofs.Writing.{progress_starts, progress_goes_on, progress_stops, progress_writes}
use Rattle.cqlp_text.proofs.text_writer.TextWriter.put_column_line.Goals as goal

pub returns-in_err-put : goal.returns-in_err-put
returns-in_err-put g c = progress_stops _ c.from_residual.result c.from_residual.ensures.0 (progress_starts _ _) refl c.in_err-put.ensures

pub returns-in_err-put_quoted : goal.returns-in_err-put_quoted
returns-in_err-put_quoted g c =
    let word = progress_goes_on _ (progress_starts _ _) refl c.in_ok-put.ensures in
    progress_stops _ c.from_residual-in_err-put_quoted.result c.from_residual-in_err-put_quoted.ensures.0 word refl c.in_err-put_quoted.ensures

pub returns : goal.returns
returns g c =
    let word = progress_goes_on _ (progress_starts _ _) refl c.in_ok-put.ensures in
    let name = progress_goes_on _ word refl c.in_ok-put_quoted.ensures in
    progress_writes _ c.put-2.result name c.put-2.ensures
