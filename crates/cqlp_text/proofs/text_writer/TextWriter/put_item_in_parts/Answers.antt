use Rattle.std.proofs.Common.{FitsSigned, w64, refl}
use Rattle.std.proofs.lemmas.Int.{to_z-of_z}
use Rattle.cqlp_text.proofs.Pages.{last_part}
use Rattle.cqlp_text.proofs.Writing.{progress_starts, progress_goes_on, progress_stops}
use Rattle.cqlp_text.proofs.text_writer.TextWriter.put_item_in_parts.Goals as goal

pub returns-in_err-put_gap : goal.returns-in_err-put_gap
returns-in_err-put_gap g c = progress_stops _ c.from_residual.result c.from_residual.ensures.0 (progress_starts _ _) refl c.in_err-put_gap.ensures

pub returns-in_err-put_signed : goal.returns-in_err-put_signed
returns-in_err-put_signed g c =
    let fits : FitsSigned w64 c.args.number = c.ranges.number in
    let s1 = progress_goes_on _ (progress_starts _ _) refl c.in_ok-put_gap.ensures in
    let breaks = simp to_z-of_z at c.in_err-put_signed.ensures in
    progress_stops _ c.from_residual-in_err-put_signed.result c.from_residual-in_err-put_signed.ensures.0 s1 refl breaks

pub returns : goal.returns
returns g c =
    let fits : FitsSigned w64 c.args.number = c.ranges.number in
    let s1 = progress_goes_on _ (progress_starts _ _) refl c.in_ok-put_gap.ensures in
    let takes = simp to_z-of_z at c.in_ok-put_signed.ensures in
    let s2 = progress_goes_on _ s1 refl takes in
    last_part _ c.put_row_end.result s2 refl c.put_row_end.ensures
