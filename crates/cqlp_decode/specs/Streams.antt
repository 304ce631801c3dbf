-- What calls hand out of a stream.
use Rattle.std.specs.Prelude.{◌≡◌, ℕ, ◌+◌, ◌*◌, ◌<◌, ◌≤◌, ◌++◌, Bool, true, false, List, [], ◌∷◌, length, take, max, Option, Some}
use Rattle.std.specs.Prelude.{None, if◌then◌else◌, ⊤}
use Rattle.std.specs.Ptr.{Ptr}
use Rattle.cqlp_note.specs.declared.refusal.Refusal.{Refusal}
use Rattle.cqlp_decode.specs.declared.step.Step.{Step}
use Rattle.cqlp_decode.specs.declared.step.Step.TheVariants as step
use Rattle.cqlp_grammar.specs.declared.event.Finish.{Finish}
use Rattle.cqlp_grammar.specs.declared.event.Finish.TheVariants as finish
use Rattle.cqlp_decode.specs.declared.step.Capacity.{Capacity}
use Rattle.cqlp_decode.specs.declared.step.Held.{Held}
use Rattle.cqlp_note.specs.Limits.{Rules}
use Rattle.cqlp_kind.specs.declared.node.Node.{Node}
use Rattle.cqlp_type.specs.Table.{Table}
use Rattle.cqlp_decode.specs.declared.progress.StreamProgress.{StreamProgress}
use Rattle.cqlp_decode.specs.Reading as reading
use Rattle.cqlp_note.specs.Reader.{says, Bad}
use Rattle.cqlp_decode.specs.Reading.{Event, Place, Gift, Gifts, gifts_now, gifts_later, held_after_all, retired, settled}
use Rattle.cqlp_decode.specs.Reading.{start_with, Reads, Says, Waits, Refused}
use Rattle.cqlp_decode.specs.Reading.{step as step_of}
use Rattle.cqlp_grammar.specs.Events.{event_of}
use Rattle.cqlp_decode.specs.Progress.{StreamState, PartsState, IsPending, IsLent, IsHeld, state_of, levels_of, frame_after, ends_due}

-- What contracts see of a decoder: where it is, and its parts that own memory.
pub record Decoding : Type 0 where
  pub progress : StreamProgress
  pub parts : PartsState

-- what it knows of its stream
abbrev pub state : Decoding → StreamState
state d = state_of d.progress d.parts

-- ---- events so far

-- the start of the frame under way: the end of the last frame, or the start of the stream
abbrev pub frame_from : ℕ → List (ℕ × Event) → ℕ
frame_from frame [] = frame
frame_from frame (e ∷ es) = frame_from (frame_after frame e.0 e.1) es

abbrev pub frame_of : List (ℕ × Event) → ℕ
frame_of es = frame_from 0 es

-- a frame is open: the last event, if there is one, is no end
abbrev pub open_after : Event → Bool
open_after (reading.End n) = false
open_after e = true

abbrev pub open_from : Bool → List (ℕ × Event) → Bool
open_from b [] = b
open_from b (e ∷ es) = open_from (open_after e.1) es

abbrev pub is_open : List (ℕ × Event) → Bool
is_open es = open_from false es

-- ---- after some calls

-- The decoder used these bytes and handed out these events, while the caller gave this: the reading of the bytes says
-- the events, and is where the decoder does, before the bytes that are under way.
pub record Conforms (gifts : Gifts) (d : StreamState) (s : List ℕ) (es : List (ℕ × Event)) : Type 0 where
  pub place : Place
  pub bytes : List ℕ
  pub pending : IsPending d.pending bytes
  pub read : Reads d.rules (start_with gifts) s es place bytes
  pub here : d.place ≡ settled place
  pub all : gifts_later place.gifts ≡ []
  pub count : length s ≡ d.place.offset + length bytes
  pub frame : d.frame ≡ frame_of es
  pub due : ends_due d.place.symbols ≡ (if is_open es then 1 else 0)

-- A decoder that has refused used these bytes and handed out these events: the reading of the bytes says the events,
-- and where it is it refuses so, with bytes that were looked at but not used. The types of the metadata are those
-- there, and so are the given ones, of which none are in use any more.
pub record HasRefusedAt (r : Refusal) (gifts : Gifts) (d : StreamState) (s : List ℕ) (es : List (ℕ × Event))
    : Type 0 where
  pub place : Place
  pub bytes : List ℕ
  pub read : Reads d.rules (start_with gifts) s es place bytes
  pub looked : List ℕ
  pub refused : says (step_of d.rules place) 0 (bytes ++ looked) ≡ Bad (r.at, r.why)
  pub all : gifts_later place.gifts ≡ []
  pub nodes : d.place.nodes ≡ place.nodes
  pub given : d.place.given ≡ held_after_all (gifts_now place.gifts) (retired place.given)

abbrev pub AfterBy : Option Refusal → Gifts → StreamState → List ℕ → List (ℕ × Event) → Type 0
AfterBy None gifts d s es = Conforms gifts d s es
AfterBy (Some r) gifts d s es = HasRefusedAt r gifts d s es

-- a decoder that was made, and then was given this, used the bytes s and handed out the events es
abbrev pub AfterGifts : Gifts → StreamState → List ℕ → List (ℕ × Event) → Type 0
AfterGifts gifts d s es = AfterBy d.refusal gifts d s es

-- the same where nothing was given
abbrev pub After : StreamState → List ℕ → List (ℕ × Event) → Type 0
After d s es = AfterGifts [] d s es

-- a refusal is that of the bytes used and the input, or it is the one before
abbrev pub Refuses : Option Refusal → Gifts → StreamState → List ℕ → List (ℕ × Event) → List ℕ → Refusal → Type 0
Refuses None gifts old s es input r = Says old.rules (start_with gifts) (s ++ input) es (Refused r.at r.why)
Refuses (Some before) gifts old s es input r = r ≡ before

-- What a call leads to that was made after these gifts, bytes and events.
abbrev pub LeadsAfter : Gifts → StreamState → List ℕ → List (ℕ × Event) → List ℕ → Step → StreamState → Type 0
LeadsAfter gifts old s es input (step.Event at used e) new =
    (used ≤ length input) × (new.refusal ≡ None) × IsPending new.pending []
    × AfterGifts gifts new (s ++ take used input) (es ++ (at, event_of e) ∷ [])
LeadsAfter gifts old s es input (step.More used) new =
    (used ≡ length input) × (new.refusal ≡ None) × AfterGifts gifts new (s ++ input) es
    × Says new.rules (start_with gifts) (s ++ input) es Waits
LeadsAfter gifts old s es input (step.Refused r) new =
    (new.refusal ≡ Some r) × AfterGifts gifts new s es × Refuses old.refusal gifts old s es input r

-- the same where nothing was given
abbrev pub Leads : StreamState → List ℕ → List (ℕ × Event) → List ℕ → Step → StreamState → Type 0
Leads old s es input x new = LeadsAfter [] old s es input x new

-- how many bytes of the input a call uses
abbrev pub Uses : List ℕ → Step → Type 0
Uses input (step.Event at used e) = used ≤ length input
Uses input (step.More used) = used ≡ length input
Uses input (step.Refused r) = ⊤

-- A call goes on: an event takes some byte, or it ends its frame or a value that is open; and a content that lies whole
-- in the bytes used is not held, and one that does not is. Nothing was refused, or it was just now.
abbrev pub Goes : StreamState → Step → StreamState → Type 0
Goes old (step.Event at used e) new =
    (ends_due new.place.symbols + new.open_values < ends_due old.place.symbols + old.open_values + 2 * used)
    × IsLent (event_of e) used new.held × (new.rules ≡ old.rules) × (new.refusal ≡ None) × (new.given ≡ old.given)
    × IsHeld (event_of e) used new.held
Goes old (step.More used) new = (new.rules ≡ old.rules) × (new.refusal ≡ None) × (new.given ≡ old.given)
Goes old (step.Refused r) new = (new.rules ≡ old.rules) × (new.refusal ≡ Some r) × (new.given ≡ old.given)

-- after a refusal, whatever came before it, a call says it again and changes nothing
abbrev pub Repeats : Option Refusal → StreamState → Step → StreamState → Type 0
Repeats (Some r) old x new = (x ≡ step.Refused r) × (new ≡ old)
Repeats None old x new = ⊤

-- the same of any gifts and any stream that led here
abbrev pub LeadsOn : StreamState → List ℕ → Step → StreamState → Type 0
LeadsOn old input x new =
    (gifts : Gifts) (s : List ℕ) (es : List (ℕ × Event))
    → AfterGifts gifts old s es → LeadsAfter gifts old s es input x new

-- What a call answers.
abbrev pub Answers : StreamState → List ℕ → Step → StreamState → Type 0
Answers old input x new =
    Goes old x new × LeadsOn old input x new × Repeats old.refusal old x new

-- ---- the end of the stream

-- The stream ends at a frame's end, or within a frame, after this many bytes.
abbrev pub FinishesBy : Option Refusal → List ℕ → List (ℕ × Event) → Finish → Type 0
FinishesBy (Some r) s es f = f ≡ finish.Refused r
FinishesBy None s es (finish.Whole bytes) = (bytes ≡ length s) × (is_open es ≡ false) × (length s ≡ frame_of es)
FinishesBy None s es (finish.Cut frame_at bytes) =
    (bytes ≡ length s) × (frame_at ≡ frame_of es) × (is_open es ≡ false → frame_of es < length s)
FinishesBy None s es (finish.Refused r) = ⊥

abbrev pub Finishes : StreamState → List ℕ → List (ℕ × Event) → Finish → Type 0
Finishes d s es f = FinishesBy d.refusal s es f

-- any stream that led here ends so, whatever was given
abbrev pub EndsAs : StreamState → Finish → Type 0
EndsAs d f = (gifts : Gifts) (s : List ℕ) (es : List (ℕ × Event)) → AfterGifts gifts d s es → Finishes d s es f

-- not that of a refusal
abbrev pub IsUnrefused : Finish → Type 0
IsUnrefused (finish.Refused r) = ⊥
IsUnrefused f = ⊤

-- ---- what is held

-- the nodes of the table that the caller gave
abbrev pub given_nodes : Option Table → List Node
given_nodes None = []
given_nodes (Some t) = t.nodes

-- where the memory begins in which a content is held
abbrev pub buffer_of : Decoding → Ptr
buffer_of d = d.parts.partial.buffer

-- no content, no type and no level
abbrev pub HoldsNothing : Decoding → Type 0
HoldsNothing d = ((state d).held ≡ []) × ((state d).place.nodes ≡ []) × (levels_of d.parts ≡ 0)

-- places for the longest content, for the types of one metadata, and for both kinds of nesting
abbrev pub capacity_within : Rules → Capacity
capacity_within l = record {
  bytes = max l.text l.cell;
  entries = l.entries;
  open_types = l.depth;
  open_values = l.depth;
}

-- no more than the rules allow, of two tables
abbrev pub IsWithin : Held → Rules → Type 0
IsWithin h l = (h.bytes ≤ max l.text l.cell) × (h.entries ≤ 2 * l.entries) × (h.levels ≤ l.depth)
