use Rattle.std.proofs.Common.{refl}
use Rattle.cqlp_text.proofs.Writing.{progress_starts}
use Rattle.cqlp_capture_summary.proofs.Texts.{said_last, said_next, said_stops}
use Rattle.cqlp_capture_summary.proofs.lines.put_counts.Goals as goal

pub returns-in_err-put_time_column : goal.returns-in_err-put_time_column
returns-in_err-put_time_column g c =
    said_stops _ c.from_residual.result c.from_residual.ensures.0 (progress_starts _ _) refl refl c.in_err-put_time_column.ensures

pub returns : goal.returns
returns g c =
    let s1 = said_next _ (progress_starts _ _) refl refl c.in_ok-put_time_column.ensures in
    said_last _ _ c.put_request_counts.result s1 refl refl c.put_request_counts.ensures
