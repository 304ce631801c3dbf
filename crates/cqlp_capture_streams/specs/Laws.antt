-- Laws: two answers of `read_capture` and of `write_streams` are the same, and each file gets just what its direction delivers.
use Rattle.std.specs.Prelude.{◌≡◌, ◌≢◌, ℕ, ◌==◌, ◌&&◌, Bool, true, false, List, [], ◌∷◌, ◌++◌, Option, Some, Ok, if◌then◌else◌}
use Rattle.cqlp_text.specs.Outputs.{Output}
use Rattle.cqlp_tcp_reassembly.specs.declared.step.StreamStep.{StreamStep}
use Rattle.cqlp_tcp_reassembly.specs.declared.step.StreamStep.TheVariants as step
use Rattle.cqlp_tcp_connections.specs.declared.ends.Way.{Way}
use Rattle.cqlp_tcp_connections.specs.declared.ends.Way.TheVariants.{Requests, Responses}
use Rattle.cqlp_capture_streams.specs.declared.capturing.CaptureRead.{CaptureRead}
use Rattle.cqlp_capture_streams.specs.declared.fault.StreamsFault.{StreamsFault}
use Rattle.cqlp_capture_streams.specs.declared.limits.StreamsLimits.{StreamsLimits}
use Rattle.cqlp_capture_streams.specs.declared.files.StreamFile.{StreamFile}
use Rattle.cqlp_capture_streams.specs.Files.{Call, Made, Appended, Kept, Failed}
use Rattle.cqlp_capture_streams.specs.ConnectionEvents.{ConnectionEvent, Packet, New, Of, Left}
use Rattle.cqlp_capture_streams.specs.Recordings.{Recording, file_of, with_connection_events}
use Rattle.cqlp_capture_streams.specs.Captures.{ReadsMade}
use Rattle.cqlp_capture_streams.specs.Streams.{ReadsCapture, WritesStreams}

-- ---- one answer

-- Where no fault comes, the same bytes, limits and ports lead a listener to the same view, and to the same answer.
module _ {V : Type 0} (after : V → ConnectionEvent → V) (faulted : V → ConnectionEvent → StreamsFault → V → Type 0) where
  abbrev pub OneAnswerOfReadCapture : Type 0
  OneAnswerOfReadCapture =
      (limits : StreamsLimits) (ports xs : List ℕ) (before v w : V) (m n : ReadsMade) (left left' : Option (List ℕ)) (r r' : CaptureRead)
      → ReadsCapture after faulted limits ports xs m (Ok r) left before v
      → ReadsCapture after faulted limits ports xs n (Ok r') left' before w
      → (r' ≡ r) × (w ≡ v)

-- Where nothing outside fails, so that the status is not that of a fault, the same bytes, limits, ports and outputs lead to the same status,
-- the same calls of files, the same lines and the same last line.
abbrev pub OneAnswerOfWriteStreams : Type 0
OneAnswerOfWriteStreams =
    (limits : StreamsLimits) (ports xs : List ℕ) (calls : Option (List Call)) (out err : Output)
    (left left' : Option (List ℕ)) (status status' : ℕ) (made made' : Option (List Call)) (out' out'' err' err'' : Output)
    → WritesStreams limits ports xs left calls out err status made out' err' → status ≢ 3
    → WritesStreams limits ports xs left' calls out err status' made' out'' err'' → status' ≢ 3
    → (status' ≡ status) × (made' ≡ made) × (out'' ≡ out') × (err'' ≡ err')

-- ---- the bytes of a file

abbrev pub is_same_way : Way → Way → Bool
is_same_way Requests Requests = true
is_same_way Responses Responses = true
is_same_way w v = false

abbrev pub is_same_file : StreamFile → StreamFile → Bool
is_same_file f g = (f.number == g.number) && is_same_way f.way g.way

-- what calls append to a file, one after the other
abbrev pub appended_by : StreamFile → Call → List ℕ
appended_by f (Made n) = []
appended_by f (Appended g bytes) = if is_same_file f g then bytes else []
appended_by f (Kept n) = []
appended_by f (Failed e) = []

abbrev pub bytes_in : StreamFile → List Call → List ℕ
bytes_in f [] = []
bytes_in f (c ∷ cs) = appended_by f c ++ bytes_in f cs

-- what is handed on of a direction
abbrev pub handed_on : StreamStep → List ℕ → List ℕ
handed_on (step.Payload from count) bytes = bytes
handed_on (step.Held time begins) bytes = bytes
handed_on s bytes = []

abbrev pub delivered_by : StreamFile → ConnectionEvent → List ℕ
delivered_by f (Packet time) = []
delivered_by f (New n) = []
delivered_by f (Of delivered bytes) = if is_same_file f (file_of delivered) then handed_on delivered.step bytes else []
delivered_by f (Left totals) = []

abbrev pub bytes_delivered : StreamFile → List ConnectionEvent → List ℕ
bytes_delivered f [] = []
bytes_delivered f (s ∷ ss) = delivered_by f s ++ bytes_delivered f ss

-- Each file gets the bytes that its direction delivers, in order, and no others.
abbrev pub GetTheirBytes : Type 0
GetTheirBytes =
    (f : StreamFile) (before : Recording) (ss : List ConnectionEvent) (calls : List Call)
    → before.calls ≡ Some calls
    → (more : List Call) × ((with_connection_events before ss).calls ≡ Some (calls ++ more)) × (bytes_in f more ≡ bytes_delivered f ss)
