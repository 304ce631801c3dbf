use Rattle.std.proofs.Common.{ap, refl, ◌/◌}
use Rattle.cqlp_text.specs.CellText.{digits}
use Rattle.cqlp_capture_summary.specs.Columns.{number_column}
use Rattle.cqlp_text.proofs.Writing.{progress_starts}
use Rattle.cqlp_capture_summary.proofs.Texts.{said_last, said_next, said_stops}
use Rattle.cqlp_capture_summary.proofs.histogram.put_bound.Goals as goal

pub returns-in_err-put_number_column : goal.returns-in_err-put_number_column
returns-in_err-put_number_column g c =
    said_stops _ c.from_residual.result c.from_residual.ensures.0 (progress_starts _ _) refl (ap (λ n. number_column 6 (n / 1_000_000)) c.greatest_in-greatest.ensures) c.in_err-put_number_column.ensures

pub returns-in_err-put : goal.returns-in_err-put
returns-in_err-put g c =
    let s1 = said_next _ (progress_starts _ _) refl (ap (λ n. number_column 6 (n / 1_000_000)) c.greatest_in-greatest.ensures) c.in_ok-put_number_column.ensures in
    said_stops _ c.from_residual-in_err-put.result c.from_residual-in_err-put.ensures.0 s1 refl refl c.in_err-put.ensures

pub returns : goal.returns
returns g c =
    let s1 = said_next _ (progress_starts _ _) refl (ap (λ n. number_column 6 (n / 1_000_000)) c.greatest_in-greatest.ensures) c.in_ok-put_number_column.ensures in
    let s2 = said_next _ s1 refl refl c.in_ok-put.ensures in
    said_last _ _ c.put_digits.result s2 refl (ap (digits 6) c.greatest_in-greatest.ensures) c.put_digits.ensures
