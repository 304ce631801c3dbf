use Rattle.std.proofs.Common.{refl}
use Rattle.cqlp_text.proofs.Writing.{progress_starts, progress_writes}
use Rattle.cqlp_capture_streams.proofs.Parts.{part_stops, part_taken}
use Rattle.cqlp_capture_streams.proofs.ending.put_noted.Goals as goal

pub returns-in_err-put_note : goal.returns-in_err-put_note
returns-in_err-put_note g c =
    part_stops _ c.from_residual.result c.from_residual.ensures.0 (progress_starts _ _) refl refl c.in_err-put_note.ensures

pub returns : goal.returns
returns g c =
    let s1 = part_taken _ (progress_starts _ _) refl refl c.in_ok-put_note.ensures in
    progress_writes _ c.put_read.result s1 c.put_read.ensures
