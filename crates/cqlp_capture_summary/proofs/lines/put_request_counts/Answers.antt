use Rattle.std.proofs.Common.{refl}
use Rattle.cqlp_text.proofs.Writing.{progress_starts}
use Rattle.cqlp_capture_summary.proofs.Texts.{said_last, said_next, said_stops}
use Rattle.cqlp_capture_summary.proofs.lines.put_request_counts.Goals as goal

pub returns-in_err-put_number_column : goal.returns-in_err-put_number_column
returns-in_err-put_number_column g c =
    said_stops _ c.from_residual.result c.from_residual.ensures.0 (progress_starts _ _) refl refl c.in_err-put_number_column.ensures

pub returns-in_err-put_number_column-2 : goal.returns-in_err-put_number_column-2
returns-in_err-put_number_column-2 g c =
    let s1 = said_next _ (progress_starts _ _) refl refl c.in_ok-put_number_column.ensures in
    said_stops _ c.from_residual-in_err-put_number_column-2.result c.from_residual-in_err-put_number_column-2.ensures.0 s1 refl refl c.in_err-put_number_column-2.ensures

pub returns-in_err-put_number_column-3 : goal.returns-in_err-put_number_column-3
returns-in_err-put_number_column-3 g c =
    let s1 = said_next _ (progress_starts _ _) refl refl c.in_ok-put_number_column.ensures in
    let s2 = said_next _ s1 refl refl c.in_ok-put_number_column-2.ensures in
    said_stops _ c.from_residual-in_err-put_number_column-3.result c.from_residual-in_err-put_number_column-3.ensures.0 s2 refl refl c.in_err-put_number_column-3.ensures

pub returns-in_err-put_number_column-4 : goal.returns-in_err-put_number_column-4
returns-in_err-put_number_column-4 g c =
    let s1 = said_next _ (progress_starts _ _) refl refl c.in_ok-put_number_column.ensures in
    let s2 = said_next _ s1 refl refl c.in_ok-put_number_column-2.ensures in
    let s3 = said_next _ s2 refl refl c.in_ok-put_number_column-3.ensures in
    said_stops _ c.from_residual-in_err-put_number_column-4.result c.from_residual-in_err-put_number_column-4.ensures.0 s3 refl refl c.in_err-put_number_column-4.ensures

pub returns : goal.returns
returns g c =
    let s1 = said_next _ (progress_starts _ _) refl refl c.in_ok-put_number_column.ensures in
    let s2 = said_next _ s1 refl refl c.in_ok-put_number_column-2.ensures in
    let s3 = said_next _ s2 refl refl c.in_ok-put_number_column-3.ensures in
    let s4 = said_next _ s3 refl refl c.in_ok-put_number_column-4.ensures in
    said_last _ _ c.put_number_column-5.result s4 refl refl c.put_number_column-5.ensures
