use Rattle.std.proofs.Common.{◌≡◌, ◌∷◌, ap, sym, ◌∙◌, decimal, FitsSigned, w64}
use Rattle.std.specs.Fmt.{signed_decimal}
use Rattle.std.proofs.lemmas.Int.{to_z-of_z}
use Rattle.itoa.proofs.Decimal.{minus_first}
use Rattle.cqlp_text.proofs.Writing.{progress_starts, progress_goes_on, progress_stops, progress_writes}
use Rattle.cqlp_text.proofs.text_writer.TextWriter.put_signed.Goals as goal

pub returns-in_err-put : goal.returns-in_err-put
returns-in_err-put g c =
    let fits : FitsSigned w64 c.args.number = c.ranges.number in
    progress_stops _ c.from_residual.result c.from_residual.ensures.0 (progress_starts _ _) (sym (minus_first c.args.number (simp to_z-of_z at c.if-number-ge0.false))) c.in_err-put.ensures

pub returns : goal.returns
returns g c =
    let fits : FitsSigned w64 c.args.number = c.ranges.number in
    let text : signed_decimal c.args.number ≡ 45 ∷ decimal c.unsigned_abs-2.result = sym (ap (λ n. 45 ∷ decimal n) (simp to_z-of_z at c.unsigned_abs-2.ensures.value) ∙ minus_first c.args.number (simp to_z-of_z at c.if-number-ge0.false)) in
    progress_writes _ c.put_number-2.result (progress_goes_on _ (progress_starts _ _) text c.in_ok-put.ensures) c.put_number-2.ensures
