use Rattle.std.proofs.Common.{refl}
use Rattle.cqlp_text.proofs.Writing.{progress_starts}
use Rattle.cqlp_capture_frames.proofs.Parts.{part_stops}
use Rattle.cqlp_capture_events.proofs.words.EventsWordsLastWords.put_words.Goals as goal

pub returns-in_err-put : goal.returns-in_err-put
returns-in_err-put g c =
    part_stops _ c.from_residual.result c.from_residual.ensures.0 (progress_starts _ _) refl refl c.in_err-put.ensures
