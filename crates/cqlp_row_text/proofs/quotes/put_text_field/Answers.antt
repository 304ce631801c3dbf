use Rattle.std.proofs.Common.{◌++◌, codes, refl, sym, ap}
use Rattle.cqlp_text.proofs.Writing.{progress_starts, progress_goes_on, progress_stops, progress_writes}
use Rattle.cqlp_row_text.specs.Quotes.{doubled}
use Rattle.cqlp_row_text.proofs.quotes.put_text_field.Goals as goal

pub returns-in_err-put : goal.returns-in_err-put
returns-in_err-put g c = progress_stops _ c.from_residual.result c.from_residual.ensures.0 (progress_starts _ _) refl c.in_err-put.ensures

pub returns-in_err-put_doubled : goal.returns-in_err-put_doubled
returns-in_err-put_doubled g c =
    progress_stops _ c.from_residual-in_err-put_doubled.result c.from_residual-in_err-put_doubled.ensures.0 (progress_goes_on _ (progress_starts _ _) refl c.in_ok-put.ensures)
    (ap (λ t. doubled 34 34 t ++ codes "\"") (sym c.as_bytes.ensures.value)) c.in_err-put_doubled.ensures

pub returns : goal.returns
returns g c =
    progress_writes _ c.put-2.result
    (progress_goes_on _ (progress_goes_on _ (progress_starts _ _) refl c.in_ok-put.ensures) (ap (λ t. doubled 34 34 t ++ codes "\"") (sym c.as_bytes.ensures.value)) c.in_ok-put_doubled.ensures) c.put-2.ensures
