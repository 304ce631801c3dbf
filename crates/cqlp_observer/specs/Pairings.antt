-- The messages that wait, and what is reported of each message.
use Rattle.std.specs.Prelude.{◌≡◌, ℕ, ◌<◌, ◌≤◌, Bool, true, false, ℤ, List, [], ◌∷◌, ◌++◌, length, map, slice_index_or, IfErr, IfOk, Option, Some, None, Result, if◌then◌else◌}
use Rattle.std.specs.declared.cmp.Ordering.TheVariants.{Less, Greater}
use Rattle.std.specs.Ordering.{int_cmp}
use Rattle.std.specs.BTreeMap.{insert_entry, is_at}
use Rattle.std.specs.Map.{lookup, remove_entry}
use Rattle.cqlp_observer.specs.declared.message.Message.{Message}
use Rattle.cqlp_observer.specs.declared.paired.Paired.{Paired}
use Rattle.cqlp_observer.specs.declared.paired.Paired.TheVariants.{Exchange, Unanswered, Unasked, Event}
use Rattle.cqlp_observer.specs.declared.pairing.Fate.{Fate}
use Rattle.cqlp_observer.specs.declared.pairing.Fate.TheVariants as fate_is
use Rattle.cqlp_observer.specs.Messages.{id_of, is_event, is_request, meets}

-- The messages that wait for the other of their exchange, each under its stream id, the least id first: requests, and responses that came
-- before their requests.
abbrev pub Waiting : Type 0 → Type 0
Waiting T = List (ℤ × Message T)

abbrev pub by_id : {T : Type 0} → List (Message T) → Waiting T
by_id ms = map (λ m. (id_of m, m)) ms

-- the place of the message under an id, and where it would be
pub record IsPlace {T : Type 0} (id : ℤ) (ms : List (Message T)) (at : ℕ) : Type 0 where
  pub within : at < length ms
  pub is : (d : Message T) → id_of (slice_index_or ms at d) ≡ id

pub record IsGap {T : Type 0} (id : ℤ) (ms : List (Message T)) (at : ℕ) : Type 0 where
  pub within : at ≤ length ms
  pub less : (k : ℕ) (d : Message T) → k < at → int_cmp (id_of (slice_index_or ms k d)) id ≡ Less
  pub greater : (k : ℕ) (d : Message T) → at ≤ k → k < length ms → int_cmp (id_of (slice_index_or ms k d)) id ≡ Greater

-- so of a search for an id, whatever messages those are that wait
abbrev pub IsPlaced : {T : Type 0} → ℤ → Waiting T → Result ℕ ℕ → Type 0
IsPlaced {T} id w place = (ms : List (Message T)) → w ≡ by_id ms → IfOk place (IsPlace id ms) × IfErr place (IsGap id ms)

abbrev pub none_wait : {T : Type 0} → Waiting T
none_wait = []

-- ---- under an id

abbrev pub under : {T : Type 0} → ℤ → Waiting T → Option (Message T)
under id w = lookup (is_at (int_cmp id)) w

abbrev pub without : {T : Type 0} → ℤ → Waiting T → Waiting T
without id w = remove_entry (is_at (int_cmp id)) w

abbrev pub with_message : {T : Type 0} → Message T → Waiting T → Waiting T
with_message m w = insert_entry int_cmp w (id_of m) m

-- ---- what is reported, and which wait then

pub record Pairs (T : Type 0) : Type 0 where
  pub reported : Option (Paired T)
  pub after : Waiting T

abbrev pub paired : {T : Type 0} → Option (Paired T) → Waiting T → Pairs T
paired reported w = record { reported = reported; after = w }

-- of a message alone, or of two that meet
abbrev pub alone : {T : Type 0} → Message T → Paired T
alone m = if is_request m then Unanswered m else Unasked m

abbrev pub exchange : {T : Type 0} → (first second : Message T) → Paired T
exchange first second = if is_request first then Exchange first second else Exchange second first

-- Where none waits under its id, a message waits, if there is room, or is reported alone.
abbrev pub awaited : {T : Type 0} → Message T → (has_room : Bool) → Waiting T → Pairs T
awaited m has_room w = if has_room then paired None (with_message m w) else paired (Some (alone m)) w

-- Where one waited, it meets that, or waits in its place.
abbrev pub met : {T : Type 0} → (first second : Message T) → (others : Waiting T) → Pairs T
met first second others =
    if meets first second then paired (Some (exchange first second)) others
    else paired (Some (alone first)) (with_message second others)

abbrev pub taken_after : {T : Type 0} → Option (Message T) → Message T → (has_room : Bool) → (others : Waiting T) → Pairs T
taken_after None m has_room others = awaited m has_room others
taken_after (Some first) m has_room others = met first m others

-- a message, where there is room for one more that waits, or none
abbrev pub taken : {T : Type 0} → Message T → (has_room : Bool) → Waiting T → Pairs T
taken m has_room w =
    if is_event m then paired (Some (Event m)) w
    else taken_after (under (id_of m) w) m has_room (without (id_of m) w)

-- Where no more come, the one under the least id is reported.
abbrev pub ended : {T : Type 0} → Waiting T → Pairs T
ended [] = paired None []
ended (e ∷ w) = paired (Some (alone e.1)) w

-- ---- what becomes of a message

abbrev pub fate_after : {T : Type 0} → (first second : Message T) → Fate
fate_after first second = if meets first second then fate_is.Meets else fate_is.Waits

abbrev pub fate_alone : (has_room : Bool) → Fate
fate_alone has_room = if has_room then fate_is.Waits else fate_is.IsOvertaken

abbrev pub fate_under : {T : Type 0} → Option (Message T) → Message T → (has_room : Bool) → Fate
fate_under None m has_room = fate_alone has_room
fate_under (Some first) m has_room = fate_after first m

-- after the one that waits under its id
abbrev pub fate_of : {T : Type 0} → Option (Message T) → Message T → (has_room : Bool) → Fate
fate_of first m has_room = if is_event m then fate_is.IsReported else fate_under first m has_room

abbrev pub is_overtaken : Fate → Bool
is_overtaken fate_is.IsReported = false
is_overtaken fate_is.Meets = false
is_overtaken fate_is.Waits = false
is_overtaken fate_is.IsOvertaken = true

abbrev pub overtakes : {T : Type 0} → Message T → (has_room : Bool) → Waiting T → Bool
overtakes m has_room w = is_overtaken (fate_of (under (id_of m) w) m has_room)

-- ---- many messages, of each whether there is room for one more when it comes

abbrev pub after_all : {T : Type 0} → List (Message T × Bool) → Waiting T → Waiting T
after_all [] w = w
after_all (m ∷ ms) w = after_all ms (taken m.0 m.1 w).after

-- what is reported of them, in their order
abbrev pub reported_or_none : {T : Type 0} → Option (Paired T) → List (Paired T)
reported_or_none None = []
reported_or_none (Some t) = t ∷ []

abbrev pub reported_of : {T : Type 0} → List (Message T × Bool) → Waiting T → List (Paired T)
reported_of [] w = []
reported_of (m ∷ ms) w = reported_or_none (taken m.0 m.1 w).reported ++ reported_of ms (taken m.0 m.1 w).after
