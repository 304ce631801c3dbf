-- Two runs are one.
use Rattle.std.proofs.Common.{◌≡◌, ◌∙◌, ℕ, List, Result, sym, ap, subst}
use Rattle.cqlp_text.specs.Outputs.{Output}
use Rattle.cqlp_capture_streams.specs.declared.capturing.CaptureRead.{CaptureRead}
use Rattle.cqlp_capture_streams.specs.declared.fault.StreamsFault.{StreamsFault}
use Rattle.cqlp_capture_streams.specs.Endings.{ConcludesNoted}
use Rattle.cqlp_capture_streams.proofs.OneAnswer.{runs_noted}
use Rattle.cqlp_capture_events.specs.Words.{events_note, events_words}
use Rattle.cqlp_capture_events.specs.Listening.{Listening, StopsAt, new_listening, with_connection_event}
use Rattle.cqlp_capture_events.specs.Capturing.{OneAnswerOfWriteEvents}

-- how it ended, by what was heard
delivered_of : (w : Listening) (ports : List ℕ) (unread : ℕ) (r : Result CaptureRead StreamsFault) (err err' : Output) (status : ℕ) → unread ≡ w.table.unread → ConcludesNoted ports (events_note unread) (events_words unread) r err status err'
    → ConcludesNoted ports (events_note w.table.unread) (events_words w.table.unread) r err status err'
delivered_of w ports unread r err err' status is ends = subst (λ (n : ℕ). ConcludesNoted ports (events_note n) (events_words n) r err status err') is ends

pub events_once : OneAnswerOfWriteEvents
events_once l asked ports xs out err made made' left left' status status' out' out'' err' err'' (r, unread, (w, reads, count, is), ends) well (r', unread', (w', reads', count', is'), ends') well' =
    let one = runs_noted with_connection_event StopsAt (λ (z : Listening) r. events_note z.table.unread) (λ (z : Listening) r. events_words z.table.unread) l ports xs (new_listening asked out) w w' made made' left left' r r' err err' err'' status status' reads (delivered_of w ports unread r err err' status count ends) well reads' (delivered_of w' ports unread' r' err err'' status' count' ends') well' in
    (one.0, is' ∙ ap (λ (z : Listening). z.output) one.1 ∙ sym is, one.2)
