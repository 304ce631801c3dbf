-- What becomes of a capture whose pages are written.
use Rattle.std.specs.Prelude.{◌≡◌, ◌≢◌, ℕ, List, codes, Option, Result}
use Rattle.cqlp_text.specs.Outputs.{Output}
use Rattle.cqlp_capture_streams.specs.declared.capturing.CaptureRead.{CaptureRead}
use Rattle.cqlp_capture_streams.specs.declared.fault.StreamsFault.{StreamsFault}
use Rattle.cqlp_capture_streams.specs.declared.limits.StreamsLimits.{StreamsLimits}
use Rattle.cqlp_capture_streams.specs.Captures.{ReadsMade}
use Rattle.cqlp_capture_streams.specs.Streams.{ReadsCapture}
use Rattle.cqlp_capture_streams.specs.Endings.{Concludes}
use Rattle.cqlp_capture_streams.specs.Causes.{HasCause}
use Rattle.cqlp_statement_types.specs.Types.{Given}
use Rattle.cqlp_capture_rows.specs.Listening.{Listening, StopsAt, new_listening, with_connection_event}

-- What was heard of an input with the bytes xs by so many reads, what that was, and the text that was written.
abbrev pub Listens : StreamsLimits → Given → (asked : ℕ) → (ports : List ℕ) → (xs : List ℕ) → ReadsMade → Result CaptureRead StreamsFault
    → (left : Option (List ℕ)) → (out : Output) → (out' : Output) → Type 0
Listens l given asked ports xs m r left out out' =
    (w : Listening) × ReadsCapture with_connection_event StopsAt l ports xs m r left (new_listening given asked out) w
    × (out' ≡ w.output)

-- The text of its pages was written, and then the line of how it ended, with its status.
abbrev pub WritesRows : StreamsLimits → Given → (asked : ℕ) → (ports : List ℕ) → (xs : List ℕ) → ReadsMade → (left : Option (List ℕ)) → (out err : Output)
    → (status : ℕ) → (out' err' : Output) → Type 0
WritesRows l given asked ports xs m left out err status out' err' =
    (r : Result CaptureRead StreamsFault) × Listens l given asked ports xs m r left out out'
    × Concludes ports (codes "rows") r err status err'

-- Where nothing outside fails, so that the status is not that of a fault, the same bytes, limits, given types, ports, connection and outputs lead to the
-- same status, the same text and the same last line.
abbrev pub OneAnswerOfWriteRows : Type 0
OneAnswerOfWriteRows =
    (l : StreamsLimits) (given : Given) (asked : ℕ) (ports xs : List ℕ) (out err : Output) (m n : ReadsMade) (left left' : Option (List ℕ))
    (status status' : ℕ) (out' out'' err' err'' : Output)
    → WritesRows l given asked ports xs m left out err status out' err' → status ≢ 3
    → WritesRows l given asked ports xs n left' out err status' out'' err'' → status' ≢ 3
    → (status' ≡ status) × (out'' ≡ out') × (err'' ≡ err')

-- The status is that of a fault only where something outside failed, or the line says that there was no memory or no end.
abbrev pub FaultsHaveCauses : Type 0
FaultsHaveCauses =
    (l : StreamsLimits) (given : Given) (asked : ℕ) (ports xs : List ℕ) (m : ReadsMade) (left : Option (List ℕ)) (out err out' err' : Output)
    → WritesRows l given asked ports xs m left out err 3 out' err' → HasCause m out err out' err'
