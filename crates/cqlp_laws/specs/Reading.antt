-- What bytes say is one list of events with one verdict, which goes on where more bytes come.
use Rattle.std.specs.Prelude.{◌≡◌, ℕ, ◌≤◌, ◌++◌, List, length}
use Rattle.cqlp_note.specs.declared.refusal.Reason.{Reason}
use Rattle.cqlp_note.specs.Limits.{Rules}
use Rattle.cqlp_note.specs.Reader.{Got, says}
use Rattle.cqlp_note.specs.Step.{Emitted}
use Rattle.cqlp_decode.specs.Reading.{Place, Event, Verdict, Refused, Gifts, Says, start_with, step}
use Rattle.cqlp_decode.specs.Progress.{StreamState, content_size_of}
use Rattle.cqlp_decode.specs.Streams.{AfterGifts}

-- Any bytes say some list of events and some verdict, where a part of a long content has any byte.
abbrev pub IsSaid : Type 0
IsSaid =
    (l : Rules) (p : Place) (bytes : List ℕ)
    → 1 ≤ l.part → (es : List (ℕ × Event)) × (v : Verdict) × Says l p bytes es v

-- And they say no more than one list of events and one verdict.
abbrev pub IsSaidOnce : Type 0
IsSaidOnce =
    (l : Rules) (p : Place) (bytes : List ℕ) (es es' : List (ℕ × Event)) (v v' : Verdict)
    → Says l p bytes es v → Says l p bytes es' v' → (es' ≡ es) × (v' ≡ v)

-- one list of events begins with the other
abbrev pub BeginsWith : (all front : List (ℕ × Event)) → Type 0
BeginsWith all front = (more : List (ℕ × Event)) × (all ≡ front ++ more)

-- Whatever bytes follow, the events go on, and a refusal stays.
abbrev pub GoesOn : Type 0
GoesOn =
    (l : Rules) (p : Place) (bytes t : List ℕ) (es es' : List (ℕ × Event)) (v v' : Verdict)
    → Says l p bytes es v → Says l p (bytes ++ t) es' v'
    → BeginsWith es' es × ((k : ℕ) (why : Reason) → v ≡ Refused k why → (es' ≡ es) × (v' ≡ v))

-- There are no more events than bytes, whatever is given, where a part of a long content has any byte: the end of a
-- frame is paid by its header, and that of a value by its length.
abbrev pub HasNoMoreEventsThanBytes : Type 0
HasNoMoreEventsThanBytes =
    (l : Rules) (gifts : Gifts) (bytes : List ℕ) (es : List (ℕ × Event)) (v : Verdict)
    → 1 ≤ l.part → Says l (start_with gifts) bytes es v → length es ≤ length bytes

-- So a decoder has handed out no more events than it has used bytes, whether it has refused or not.
abbrev pub HandsOutNoMoreEventsThanBytes : Type 0
HandsOutNoMoreEventsThanBytes =
    (gifts : Gifts) (d : StreamState) (s : List ℕ) (es : List (ℕ × Event))
    → 1 ≤ d.rules.part → AfterGifts gifts d s es → length es ≤ length s

-- The content of an event lies in the bytes of the step that says it.
abbrev pub LiesInItsStep : Type 0
LiesInItsStep =
    (l : Rules) (p : Place) (bytes : List ℕ) (x : Emitted Event Place) (used : ℕ)
    → says (step l p) 0 bytes ≡ Got x used → content_size_of x.event ≤ used
