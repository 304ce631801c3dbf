-- A decoder that reads a frame.
use Rattle.std.specs.Prelude.{◌≡◌, ◌≤◌, ℕ, Bool, true, false, List, [], ◌++◌, Option, Some, None, Result, Ok, Err}
use Rattle.cqlp_note.specs.declared.refusal.Refusal.{Refusal}
use Rattle.cqlp_kind.specs.declared.node.Node.{Node}
use Rattle.cqlp_decode.specs.Reading.{Waits, Refused}
use Rattle.cqlp_decode.specs.Progress.{StreamState}
use Rattle.cqlp_decode.specs.Streams.{AfterGifts}
use Rattle.cqlp_text.specs.Written.{Receives, Written}
use Rattle.cqlp_capture_frames.specs.Faults.{Stops}
use Rattle.cqlp_capture_frames.specs.Happenings.{Manner, after_all, texts}
use Rattle.cqlp_capture_frames.specs.Frames.{Open, gifts_of, more_events, nodes_of, opened, read, says, taken}

-- It was given its types and handed these bytes of a frame, and gave their events. More is wanted.
pub record IsReading (d : StreamState) (bytes : List ℕ) : Type 0 where
  pub free : d.refusal ≡ None
  pub after : AfterGifts (gifts_of (nodes_of d.given)) d bytes (read d.rules (nodes_of d.given) bytes).0
  pub waits : (read d.rules (nodes_of d.given) bytes).1 ≡ Waits

-- It is before the first byte of a frame, with these types, if they are taken.
pub record IsNew (types : Option (List Node)) (d : StreamState) : Type 0 where
  pub free : d.refusal ≡ None
  pub given : nodes_of d.given ≡ taken d.rules types
  pub after : AfterGifts (gifts_of (nodes_of d.given)) d [] []

-- The text of the events that more bytes say of a frame at this offset was taken, and the frame goes on or is refused so; or a fault came
-- within it.
module _ {S F : Type 0} (refuses : F → Bool) (m : Manner S) (at : ℕ) (before more : List ℕ) (d : StreamState) (s : S) where
  abbrev pub Drains : Result (Option Refusal) F → StreamState → S → (old new : Written) → Type 0
  Drains (Ok None) d' s' old new =
      IsReading d' (before ++ more) × (s' ≡ after_all m s (says at (more_events d.rules (nodes_of d.given) before more)))
      × Receives old (texts m s (says at (more_events d.rules (nodes_of d.given) before more))) new
  Drains (Ok (Some r)) d' s' old new =
      ((read d.rules (nodes_of d.given) (before ++ more)).1 ≡ Refused r.at r.why)
      × (s' ≡ after_all m s (says at (more_events d.rules (nodes_of d.given) before more)))
      × Receives old (texts m s (says at (more_events d.rules (nodes_of d.given) before more))) new
  Drains (Err e) d' s' old new = Stops (refuses e) old (texts m s (says at (more_events d.rules (nodes_of d.given) before more))) new

-- ---- what contracts see of it

abbrev pub frame_if : (is_open : Bool) → (at : ℕ) → (given : Option (List Node)) → (bytes : List ℕ) → Option Open
frame_if true at given bytes = Some (opened at given bytes)
frame_if false at given bytes = None

-- A frame is read, if one is open. A part has some byte.
pub record IsReady (is_open : Bool) (d : StreamState) (bytes : List ℕ) : Type 0 where
  pub some : 1 ≤ d.rules.part
  pub reads : is_open ≡ true → IsReading d bytes
