-- What becomes of a capture whose frames are written.
use Rattle.std.specs.Prelude.{◌≡◌, ◌≢◌, ℕ, List, Option, Result}
use Rattle.cqlp_text.specs.Outputs.{Output}
use Rattle.cqlp_capture_streams.specs.declared.capturing.CaptureRead.{CaptureRead}
use Rattle.cqlp_capture_streams.specs.declared.fault.StreamsFault.{StreamsFault}
use Rattle.cqlp_capture_streams.specs.declared.limits.StreamsLimits.{StreamsLimits}
use Rattle.cqlp_capture_streams.specs.Captures.{ReadsMade}
use Rattle.cqlp_capture_streams.specs.Streams.{ReadsCapture}
use Rattle.cqlp_capture_streams.specs.Endings.{ConcludesNoted}
use Rattle.cqlp_capture_streams.specs.Causes.{HasCause}
use Rattle.cqlp_capture_events.specs.Words.{events_note, events_words}
use Rattle.cqlp_capture_events.specs.Listening.{Listening, StopsAt, new_listening, with_connection_event}

-- What was heard of an input with the bytes xs by so many reads, what that was, the lines that were written, and how many frames were not read.
abbrev pub Listens : StreamsLimits → (asked : Option ℕ) → (ports : List ℕ) → (xs : List ℕ) → ReadsMade → Result CaptureRead StreamsFault
    → (left : Option (List ℕ)) → (out : Output) → (unread : ℕ) → (out' : Output) → Type 0
Listens l asked ports xs m r left out unread out' =
    (w : Listening) × ReadsCapture with_connection_event StopsAt l ports xs m r left (new_listening asked out) w
    × (unread ≡ w.table.unread) × (out' ≡ w.output)

-- The lines of its frames were written, and then the line of how it ended, with its status.
abbrev pub WritesEvents : StreamsLimits → (asked : Option ℕ) → (ports : List ℕ) → (xs : List ℕ) → ReadsMade → (left : Option (List ℕ))
    → (out err : Output) → (status : ℕ) → (out' err' : Output) → Type 0
WritesEvents l asked ports xs m left out err status out' err' =
    (r : Result CaptureRead StreamsFault) × (unread : ℕ) × Listens l asked ports xs m r left out unread out'
    × ConcludesNoted ports (events_note unread) (events_words unread) r err status err'

-- Where nothing outside fails, so that the status is not that of a fault, the same bytes, limits, ports, connection and outputs lead to the
-- same status, the same lines and the same last line.
abbrev pub OneAnswerOfWriteEvents : Type 0
OneAnswerOfWriteEvents =
    (l : StreamsLimits) (asked : Option ℕ) (ports xs : List ℕ) (out err : Output) (m n : ReadsMade) (left left' : Option (List ℕ))
    (status status' : ℕ) (out' out'' err' err'' : Output)
    → WritesEvents l asked ports xs m left out err status out' err' → status ≢ 3
    → WritesEvents l asked ports xs n left' out err status' out'' err'' → status' ≢ 3
    → (status' ≡ status) × (out'' ≡ out') × (err'' ≡ err')

-- The status is that of a fault only where something outside failed, or the line says that there was no memory or no end.
abbrev pub FaultsHaveCauses : Type 0
FaultsHaveCauses =
    (l : StreamsLimits) (asked : Option ℕ) (ports xs : List ℕ) (m : ReadsMade) (left : Option (List ℕ)) (out err out' err' : Output)
    → WritesEvents l asked ports xs m left out err 3 out' err' → HasCause m out err out' err'
