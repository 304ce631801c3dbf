-- The frames of other connections that may be PREPAREDs.
use Rattle.std.specs.Prelude.{ℕ, ◌==◌, ◌&&◌, not, nat_le, Bool, true, false, List, [], ◌∷◌, ◌++◌, Option, Some, None, if◌then◌else◌}
use Rattle.std.specs.Map.{lookup}
use Rattle.cqlp_note.specs.declared.header.Header.{Header}
use Rattle.cqlp_note.specs.declared.opcode.Opcode.{Opcode}
use Rattle.cqlp_note.specs.declared.opcode.Opcode.TheVariants as opcode
use Rattle.cqlp_note.specs.Heading.{has, header_bytes}
use Rattle.cqlp_observer_facts.specs.declared.reader.FactsReader.{FactsReader}
use Rattle.cqlp_observer_facts.specs.Reading.{begun, read}
use Rattle.cqlp_capture_prepared.specs.Latest.{Latest, none_yet, put, without}
use Rattle.cqlp_capture_rows.specs.declared.other_limits.TheConstants.{LONGEST_PREPARED, OTHER_FRAMES}

-- the header, what was read of the body, and the bytes: of the header and of the body, once some of that came
pub record PreparedFrame : Type 0 where
  pub head : List ℕ
  pub reader : FactsReader
  pub bytes : List ℕ

abbrev pub prepared_frame : (head : List ℕ) → FactsReader → (bytes : List ℕ) → PreparedFrame
prepared_frame head reader bytes = record { head = head; reader = reader; bytes = bytes }

abbrev pub begun_frame : Header → PreparedFrame
begun_frame h = prepared_frame (header_bytes h) (begun h) []

abbrev pub is_result : Opcode → Bool
is_result opcode.Result = true
is_result o = false

-- a RESULT that is not compressed (section 2.2) and not too long
abbrev pub may_prepare : Header → Bool
may_prepare h = ((is_result h.opcode && not (has h.flags 0x01)) && h.response) && nat_le h.length LONGEST_PREPARED

-- Its kind is that of a PREPARED (section 4.2.5), or has not come.
abbrev pub may_be_prepared : (kind : Option ℕ) → Bool
may_be_prepared None = true
may_be_prepared (Some kind) = kind == 4

abbrev pub after_head : (head bytes : List ℕ) → List ℕ
after_head head [] = head
after_head head (x ∷ b) = x ∷ b

abbrev pub with_body : List ℕ → PreparedFrame → PreparedFrame
with_body b f = prepared_frame f.head f.reader (after_head f.head f.bytes ++ b)

-- the frame with more bytes of its body, as long as it may be a PREPARED
abbrev pub gathered : List ℕ → PreparedFrame → Option PreparedFrame
gathered b f =
    if may_be_prepared (read b f.reader).facts.result then Some (with_body b (prepared_frame f.head (read b f.reader) f.bytes)) else None

-- ---- those of all connections by their numbers, the latest, of which bytes came last

abbrev pub PreparedFrames : Type 0
PreparedFrames = Latest ℕ PreparedFrame

abbrev pub no_frames : PreparedFrames
no_frames = none_yet OTHER_FRAMES

abbrev pub frame_of : (number : ℕ) → PreparedFrames → Option PreparedFrame
frame_of n fs = lookup (λ m. n == m) fs.entries

abbrev pub frame_ends : (number : ℕ) → PreparedFrames → PreparedFrames
frame_ends n fs = without (λ m. n == m) fs

abbrev pub frame_begins : (number : ℕ) → Header → PreparedFrames → PreparedFrames
frame_begins n h fs = if may_prepare h then put (λ k m. k == m) n (begun_frame h) fs else frame_ends n fs

abbrev pub frame_stays : (number : ℕ) → Option PreparedFrame → PreparedFrames → PreparedFrames
frame_stays n None fs = frame_ends n fs
frame_stays n (Some f) fs = put (λ k m. k == m) n f (frame_ends n fs)

abbrev pub frame_grows_by : List ℕ → (number : ℕ) → Option PreparedFrame → PreparedFrames → PreparedFrames
frame_grows_by b n None fs = frame_ends n fs
frame_grows_by b n (Some f) fs = frame_stays n (gathered b f) fs

abbrev pub frame_grows : List ℕ → (number : ℕ) → PreparedFrames → PreparedFrames
frame_grows b n fs = frame_grows_by b n (frame_of n fs) fs
