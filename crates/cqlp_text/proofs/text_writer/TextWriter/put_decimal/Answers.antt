use Rattle.std.proofs.Common.{FitsSigned, w32, refl}
use Rattle.std.proofs.lemmas.Int.{to_z-of_z}
use Rattle.cqlp_text.proofs.Writing.{progress_starts, progress_goes_on, progress_stops, progress_writes}
use Rattle.cqlp_text.proofs.text_writer.TextWriter.put_decimal.Goals as goal

pub returns-in_err-put_varint : goal.returns-in_err-put_varint
returns-in_err-put_varint g c =
    progress_stops _ c.from_residual.result c.from_residual.ensures.0 (progress_starts _ _) refl c.in_err-put_varint.ensures

pub returns-in_err-put : goal.returns-in_err-put
returns-in_err-put g c =
    let unscaled = progress_goes_on _ (progress_starts _ _) refl c.in_ok-put_varint.ensures in
    progress_stops _ c.from_residual-in_err-put.result c.from_residual-in_err-put.ensures.0 unscaled refl c.in_err-put.ensures

pub returns : goal.returns
returns g c =
    let unscaled = progress_goes_on _ (progress_starts _ _) refl c.in_ok-put_varint.ensures in
    let e = progress_goes_on _ unscaled refl c.in_ok-put.ensures in
    let fits : FitsSigned w32 c.args.scale = c.ranges.scale in
    progress_writes _ c.put_negated.result e (simp to_z-of_z at c.put_negated.ensures)
