use Rattle.std.proofs.Common.{append-nil, sym}
use Rattle.cqlp_text.proofs.Writing.{progress_starts}
use Rattle.cqlp_capture_frames.proofs.Parts.{part_last}
use Rattle.cqlp_capture_events.proofs.words.EventsWordsLastWords.put_note.Goals as goal

pub returns : goal.returns
returns g c = part_last _ _ c.put_str.result (progress_starts _ _) (sym (append-nil _)) c.note_of.ensures c.put_str.ensures
