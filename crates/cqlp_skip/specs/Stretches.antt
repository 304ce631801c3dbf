-- A stream that is read in stretches. A stretch is a stream of its own, which begins with a frame's header. Where it is refused within the body of a frame,
-- the caller may give it up: the rest of that frame is passed over, and the next stretch begins with the header after it.
use Rattle.std.specs.Prelude.{◌≡◌, ℕ, ◌+◌, ◌-◌, ◌^◌, min, ◌&&◌, List, [], ◌∷◌, ◌++◌, drop, Option, Some, None, nat_lt, nat_le, if◌then◌else◌}
use Rattle.cqlp_note.specs.declared.refusal.Refusal.{Refusal}
use Rattle.cqlp_note.specs.Limits.{Rules}
use Rattle.cqlp_decode.specs.Reading.{Event, Frame, End, Gifts, Refused, Says, start_with}
use Rattle.cqlp_skip.specs.declared.frame.OpenFrame.{OpenFrame}

-- ---- frames

-- the frame under way after an event at an offset: a header begins one, and an end ends it
abbrev pub frame_after : Option OpenFrame → (at : ℕ) → Event → Option OpenFrame
frame_after f at (Frame h) = Some (record { at = at; header = h })
frame_after f at (End n) = None
frame_after f at e = f

abbrev pub frame_from : Option OpenFrame → List (ℕ × Event) → Option OpenFrame
frame_from f [] = f
frame_from f (e ∷ es) = frame_from (frame_after f e.0 e.1) es

-- the frame under way after all events of a stretch
abbrev pub frame_under_way : List (ℕ × Event) → Option OpenFrame
frame_under_way es = frame_from None es

-- where a frame ends: a header has nine bytes (section 2), and says how long the body is
abbrev pub end_of : OpenFrame → ℕ
end_of f = f.at + f.header.length + 9

-- The end of a frame in the whole stream, of which this many bytes were used. There is none from the greatest offset on, or before what was used.
abbrev pub end_within : OpenFrame → (base used : ℕ) → Option ℕ
end_within f base used =
    let end = base + end_of f in
    if nat_lt end (2 ^ 64 - 1) && nat_le used end then Some end else None

-- ---- offsets

-- The offset in the whole stream of what lies at an offset from where its stretch begins. Where it is greater than the greatest number, it is that number.
abbrev pub stream_offset : (base at : ℕ) → ℕ
stream_offset base at = min (base + at) (2 ^ 64 - 1)

abbrev pub emitted : (base : ℕ) → List (ℕ × Event) → List (ℕ × Event)
emitted base [] = []
emitted base (e ∷ es) = (stream_offset base e.0, e.1) ∷ emitted base es

-- ---- stretches that were given up

-- A stretch that was given up: where it begins in the whole stream, what the caller gave over it, its events, and the frame in whose body it was refused. The
-- offsets of its events, of the frame and of the refusal are from where it begins.
pub record Stretch : Type 0 where
  pub from : ℕ
  pub gifts : Gifts
  pub events : List (ℕ × Event)
  pub frame : OpenFrame
  pub refusal : Refusal

-- Bytes that begin where a stretch begins say its events and its refusal, within the body of its frame.
abbrev pub IsGivenUp : Rules → (bytes : List ℕ) → Stretch → Type 0
IsGivenUp l bytes x =
    Says l (start_with x.gifts) bytes x.events (Refused x.refusal.at x.refusal.why)
    × (frame_under_way x.events ≡ Some x.frame)

-- where the stretch begins that comes after these, of which the last comes first: after the frame that was passed over
abbrev pub base_after : List Stretch → ℕ
base_after [] = 0
base_after (x ∷ earlier) = x.from + end_of x.frame

-- the events of these stretches, in order
abbrev pub emitted_before : List Stretch → List (ℕ × Event)
emitted_before [] = []
emitted_before (x ∷ earlier) = emitted_before earlier ++ emitted x.from x.events

-- Of the stream xs these stretches were given up, of which the last comes first.
abbrev pub GivenUp : Rules → (xs : List ℕ) → List Stretch → Type 0
GivenUp l xs [] = Unit {0}
GivenUp l xs (x ∷ earlier) = (x.from ≡ base_after earlier) × IsGivenUp l (drop x.from xs) x × GivenUp l xs earlier
