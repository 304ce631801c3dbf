-- Laws of streams: each byte is handed on once, in order, and is that of the first segment that carried it, with the time of its
-- packet; a gap is reported where none did, or where the packet of the first that did was cut.
use Rattle.std.specs.Prelude.{◌≡◌, ℕ, ◌+◌, ◌%◌, ◌^◌, ◌<◌, ◌≤◌, ◌==◌, ◌&&◌, ◌++◌, Bool, true, false, List, [], ◌∷◌, length, take, drop, Option, Some, None}
use Rattle.std.specs.Prelude.{slice_index, ⊤}
use Rattle.cqlp_tcp_reassembly.specs.declared.stream.Stage.TheVariants.{Open}
use Rattle.cqlp_tcp_reassembly.specs.declared.step.GapCause.TheVariants.{Lost, Snapped}
use Rattle.cqlp_tcp_reassembly.specs.declared.step.StreamStep.{StreamStep}
use Rattle.cqlp_tcp_reassembly.specs.declared.step.StreamStep.TheVariants.{Payload, Held, Gap, Kept, Ended, Done}
use Rattle.cqlp_tcp_reassembly.specs.Sequence.{distance}
use Rattle.cqlp_tcp_reassembly.specs.Segments.{Segment, begins_stream, first_number, next_number}
use Rattle.cqlp_tcp_reassembly.specs.Streams.{StreamState, after_acknowledgement, after_close, after_segment, begun, held, is_acknowledged, passed}
use Rattle.cqlp_tcp_reassembly.specs.Streams.{size, stop, delivered}
use Rattle.cqlp_tcp_reassembly.specs.Laws.{Carried, Entry, Holds, captured_byte, carried_entry, cut_off, first_entry, with_more}

-- of the segments the first that carried each position from this one on has these bytes and this time, and begins with the first
-- of them or not
pub record HandsOn (segments : List Carried) (position : ℕ) (bytes : List ℕ) (begins : Bool) (time : Option ℕ) : Type 0 where
  pub some : 0 < length bytes
  pub each : (i : ℕ) → i < length bytes → first_entry segments (position + i) ≡ Some (captured_byte (slice_index bytes i) (begins && (i == 0)) time)

-- of so many positions the first that carried it was cut before it, in a packet of this time
pub record WereCutOff (segments : List Carried) (position n : ℕ) (time : Option ℕ) : Type 0 where
  pub some : 0 < n
  pub each : (i : ℕ) → i < n → first_entry segments (position + i) ≡ Some (cut_off time)

-- none of the segments carried any of so many positions
pub record Lacks (segments : List Carried) (position n : ℕ) : Type 0 where
  pub some : 0 < n
  pub none : (i : ℕ) → i < n → first_entry segments (position + i) ≡ None

-- a stream that is at a position, and holds what these segments carried
pub record IsAt (s : StreamState) (origin position : ℕ) (segments : List Carried) : Type 0 where
  pub at : s.position ≡ position
  pub holds : Holds s origin segments

-- ---- what is reported where the stream is at a position

abbrev pub Follows : StreamStep → List Carried → (origin position : ℕ) → StreamState → Type 0
Follows (Gap n Lost time) segments origin position s =
    Lacks segments (origin + position) n × (time ≡ None) × IsAt s origin (position + n) segments
Follows (Gap n Snapped time) segments origin position s =
    WereCutOff segments (origin + position) n time × IsAt s origin (position + n) segments
Follows (Held time begins) segments origin position s =
    HandsOn segments (origin + position) (held s) begins time × IsAt s origin position segments
Follows Ended segments origin position s = stop s ≤ position
Follows Done segments origin position s = IsAt s origin position segments
Follows t segments origin position s = ⊥

-- Where a segment brings it, as far as it was taken: its own bytes; nothing, where a part was kept; nothing, where all of it before
-- the stream's end was taken. What is lost this segment did not carry either.
abbrev pub Delivers : StreamStep → List Carried → (origin position : ℕ) → (start : ℕ) → Segment → StreamState → Type 0
Delivers (Payload from count) segments origin position start g s =
    (length (take count (drop from g.bytes)) ≡ count)
    × HandsOn (with_more segments start g (origin + position + count)) (origin + position) (take count (drop from g.bytes)) (from == 0) g.time
    × IsAt s origin (position + count) (with_more segments start g (origin + position + count))
Delivers Kept segments origin position start g s = (end : ℕ) × IsAt s origin position (with_more segments start g end)
Delivers Done segments origin position start g s = IsAt s origin position (with_more segments start g (origin + stop s))
Delivers (Gap n Lost time) segments origin position start g s =
    Lacks (with_more segments start g (origin + stop s)) (origin + position) n × (time ≡ None) × IsAt s origin (position + n) segments
Delivers (Gap n Snapped time) segments origin position start g s =
    WereCutOff (with_more segments start g (origin + position + n)) (origin + position) n time
    × IsAt s origin (position + n) (with_more segments start g (origin + position + n))
Delivers t segments origin position start g s = Follows t segments origin position s

-- a segment that begins less than 2^31 bytes before or after a position
abbrev pub IsNear : (position start : ℕ) → Type 0
IsNear position start = (start < position + 2 ^ 31) × (position < start + 2 ^ 31)

-- A stream begins with nothing held, at the segment's first number.
abbrev pub BeginsEmpty : Type 0
BeginsEmpty =
    (old : StreamState) (g : Segment) (origin : ℕ)
    → begins_stream g ≡ true → first_number g.control ≡ origin % 2 ^ 32
    → IsAt (begun old g).state origin 0 []

-- So it is of each call with a segment without RST that is near, in a stream that has begun,
abbrev pub DeliversTheFirst : Type 0
DeliversTheFirst =
    (old : StreamState) (origin : ℕ) (segments : List Carried) (start : ℕ) (g : Segment) (room : ℕ) (t : StreamStep) (s : StreamState)
    → old.stage ≡ Open → Holds old origin segments → IsNear (origin + old.position) start
    → g.control.rst ≡ false → first_number g.control ≡ start % 2 ^ 32
    → delivered t s ≡ after_segment old g room
    → Delivers t segments origin old.position start g s

-- of each call with an acknowledgement, and at the close,
abbrev pub ReportsWhatIsLost : Type 0
ReportsWhatIsLost =
    (old : StreamState) (origin : ℕ) (segments : List Carried) (number : ℕ) (t : StreamStep) (s : StreamState)
    → old.stage ≡ Open → Holds old origin segments
    → delivered t s ≡ after_acknowledgement old number
    → Follows t segments origin old.position s

abbrev pub DeliversAtTheClose : Type 0
DeliversAtTheClose =
    (old : StreamState) (origin : ℕ) (segments : List Carried) (t : StreamStep) (s : StreamState)
    → old.stage ≡ Open → Holds old origin segments
    → delivered t s ≡ after_close old
    → Follows t segments origin old.position s

-- and behind the bytes that it lent.
abbrev pub GoesOnBehindTheHeld : Type 0
GoesOnBehindTheHeld =
    (s : StreamState) (origin : ℕ) (segments : List Carried)
    → Holds s origin segments
    → IsAt (passed s) origin (s.position + length (held s)) segments

-- ---- bytes are given up only where it must be

-- A segment brings a loss only where there is no room for it, and what is kept is within the room.
abbrev pub IsInTime : StreamStep → (old new : StreamState) → Segment → (room : ℕ) → Type 0
IsInTime (Gap n Lost time) old new g room = room < size old + length g.bytes + 144
IsInTime Kept old new g room = size new ≤ room
IsInTime t old new g room = ⊤

abbrev pub DeliversInTime : Type 0
DeliversInTime =
    (old : StreamState) (g : Segment) (room : ℕ) (t : StreamStep) (s : StreamState)
    → delivered t s ≡ after_segment old g room
    → IsInTime t old s g room

-- An acknowledgement brings one only of what it acknowledges.
abbrev pub IsAcknowledged : StreamStep → (old : StreamState) → (number : ℕ) → Type 0
IsAcknowledged (Gap n Lost time) old number = is_acknowledged (distance (next_number old.first old.position) number) n ≡ true
IsAcknowledged t old number = ⊤

abbrev pub LosesTheAcknowledged : Type 0
LosesTheAcknowledged =
    (old : StreamState) (number : ℕ) (t : StreamStep) (s : StreamState)
    → delivered t s ≡ after_acknowledgement old number
    → IsAcknowledged t old number

-- ---- duplicates and order

-- each position has the same first entry
abbrev pub AreAlike : List Carried → List Carried → Type 0
AreAlike a b = (p : ℕ) → first_entry a p ≡ first_entry b p

-- two segments that carry a position carry the same there
abbrev pub Agree : Carried → Carried → Type 0
Agree a b = (p : ℕ) (d e : Entry) → carried_entry a p ≡ Some d → carried_entry b p ≡ Some e → d ≡ e

-- A segment that comes again changes nothing, nor does one of which less was taken before; neighbours that agree may come in either
-- order.
abbrev pub IsTheSameWithDuplicates : Type 0
IsTheSameWithDuplicates =
    (before after : List Carried) (c : Carried) → AreAlike (before ++ c ∷ after ++ c ∷ []) (before ++ c ∷ after)

abbrev pub IsTheSameInEitherOrder : Type 0
IsTheSameInEitherOrder =
    (before after : List Carried) (a b : Carried) → Agree a b → AreAlike (before ++ a ∷ b ∷ after) (before ++ b ∷ a ∷ after)

abbrev pub IsTheSameInParts : Type 0
IsTheSameInParts =
    (before : List Carried) (start : ℕ) (g : Segment) (part whole : ℕ)
    → part ≤ whole
    → AreAlike (with_more (with_more before start g part) start g whole) (with_more before start g whole)

-- And from segments that are alike the same bytes are handed on, with the same times.
abbrev pub HandsOnTheSame : Type 0
HandsOnTheSame =
    (a b : List Carried) (position : ℕ) (x y : List ℕ) (d e : Bool) (m n : Option ℕ)
    → AreAlike a b → HandsOn a position x d m → HandsOn b position y e n → length x ≡ length y
    → (x ≡ y) × (d ≡ e) × (m ≡ n)

-- ---- one answer

abbrev pub OneAnswerOfTake : Type 0
OneAnswerOfTake =
    (old : StreamState) (g : Segment) (room : ℕ) (t u : StreamStep) (s r : StreamState)
    → delivered t s ≡ after_segment old g room → delivered u r ≡ after_segment old g room
    → (u ≡ t) × (r ≡ s)

abbrev pub OneAnswerOfAcknowledge : Type 0
OneAnswerOfAcknowledge =
    (old : StreamState) (number : ℕ) (t u : StreamStep) (s r : StreamState)
    → delivered t s ≡ after_acknowledgement old number → delivered u r ≡ after_acknowledgement old number
    → (u ≡ t) × (r ≡ s)
