use Rattle.std.proofs.Common.{refl}
use Rattle.cqlp_text.proofs.Writing.{progress_starts}
use Rattle.cqlp_capture_streams.proofs.Parts.{part_last, part_stops, part_taken}
use Rattle.cqlp_capture_streams.proofs.summary.put_files.Goals as goal

pub returns-in_err-put_count : goal.returns-in_err-put_count
returns-in_err-put_count g c =
    part_stops _ c.from_residual.result c.from_residual.ensures.0 (progress_starts _ _) refl refl c.in_err-put_count.ensures

pub returns : goal.returns
returns g c =
    let s1 = part_taken _ (progress_starts _ _) refl refl c.in_ok-put_count.ensures in
    part_last _ _ c.put_count-2.result s1 refl refl c.put_count-2.ensures
