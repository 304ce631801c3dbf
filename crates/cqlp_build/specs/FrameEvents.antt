-- What is built of the events that are held, one after the other.
use Rattle.std.specs.Prelude.{◌≡◌, ◌<◌, ◌≤◌, ⊤, ℕ, List, ◌∷◌, ◌++◌, ◌⊎◌, Bool, true, length, Option, Some, None, map, string_bytes}
use Rattle.std.specs.List.{list_all}
use Rattle.cqlp_note.specs.declared.field.Field.{Field}
use Rattle.cqlp_note.specs.Field as note
use Rattle.cqlp_note.specs.Field.{FieldValue}
use Rattle.cqlp_kind.specs.declared.kind.Kind.{Kind}
use Rattle.cqlp_kind.specs.CellStep.{CellEvent}
use Rattle.cqlp_grammar.specs.Events.{Event, Holds, Node_of, Cell_at, Leave, cell_event}
use Rattle.cqlp_build_cells.specs.Building.{is_whole}
use Rattle.cqlp_build_cells.specs.CellEvents as cell
use Rattle.cqlp_build_cells.specs.declared.step.Step.{Step}
use Rattle.cqlp_message.specs.Owned.{bound_of, bytes_of}
use Rattle.cqlp_build.specs.declared.held.Fault.{Fault}
use Rattle.cqlp_build.specs.declared.held.Fault.TheVariants as fault
use Rattle.cqlp_build.specs.declared.held.FrameEvents.{FrameEvents}
use Rattle.cqlp_build.specs.declared.item.Item.{Item}
use Rattle.cqlp_build.specs.declared.item.Item.TheVariants as item
use Rattle.cqlp_build.specs.declared.item.Content.{Content}
use Rattle.cqlp_build.specs.declared.item.Content.TheVariants as content

-- what a content of our own is
abbrev pub held_in : Content → FieldValue
held_in (content.Byte n) = note.Byte n
held_in (content.Short n) = note.Short n
held_in (content.Int z) = note.Int z
held_in (content.Long z) = note.Long z
held_in (content.Uuid id) = note.Uuid id
held_in (content.Count n) = note.Count n
held_in (content.Text t) = note.Text (string_bytes t)
held_in (content.Bytes b) = note.Bytes (bytes_of b)
held_in (content.Bound v) = note.Bound (bound_of v)
held_in (content.Inet a z) = note.Inet a z

-- the event that an item is
abbrev pub item_event : Item → Event
item_event (item.Holds f c) = Holds f (held_in c)
item_event (item.Kind k) = Node_of k
item_event (item.Cell row column level s) = cell_event row column (cell.emitted_at level s)

-- a field, the kind of a type option, or an event of a cell but a part of a scalar
abbrev pub IsHeld : Event → Type 0
IsHeld (Holds f v) = ⊤
IsHeld (Node_of k) = ⊤
IsHeld (Cell_at row column c) = is_whole (Cell_at row column c) ≡ true
IsHeld (Leave level items) = ⊤
IsHeld e = ⊥

-- the events that are left
abbrev pub left : FrameEvents → List Event
left h = map item_event h.items.items

-- nothing was refused
abbrev pub IsSound : FrameEvents → Type 0
IsSound h = h.fault ≡ None

abbrev pub IsRefused : FrameEvents → Type 0
IsRefused h = h.fault ≡ Some fault.NoFrame

-- the fault that was first
abbrev pub first_fault : Option Fault → Fault → Option Fault
first_fault None f = Some f
first_fault (Some g) f = Some g

-- What the next event holds where it is this field, which is taken; of any other nothing is said, and it is taken or not.
abbrev pub TakesField : Field → Option Content → (old new : FrameEvents) → Type 0
TakesField f (Some k) old new = IsSound old × (left old ≡ Holds f (held_in k) ∷ left new) × IsSound new
TakesField f None old new =
    (new.fault ≡ old.fault) × (IsSound old → (v : FieldValue) (rest : List Event) → left old ≡ Holds f v ∷ rest → ⊥)

-- The kind of a type option, which came next and is taken; of anything else nothing is said, and it is taken or not.
abbrev pub TakesKind : Option Kind → (old new : FrameEvents) → Type 0
TakesKind (Some k) old new = IsSound old × (left old ≡ Node_of k ∷ left new) × IsSound new
TakesKind None old new =
    (new.fault ≡ old.fault) × (IsSound old → (k : Kind) (rest : List Event) → left old ≡ Node_of k ∷ rest → ⊥)

-- The next event of the cell of this row and column, which is taken; where nothing is, nothing is said, and it is taken or not.
abbrev pub TakesStep : (row column : ℕ) → Option (ℕ × Step) → (old new : FrameEvents) → Type 0
TakesStep row column (Some s) old new =
    IsSound old × (left old ≡ cell_event row column (cell.emitted_by s) ∷ left new) × IsSound new
TakesStep row column None old new =
    (new.fault ≡ old.fault) × (IsSound old → (e : CellEvent) (rest : List Event) → left old ≡ cell_event row column e ∷ rest → ⊥)

-- It is what a field holds, as such a value, and None where no such value is that.
pub record Finds {A : Type 0} (make : A → FieldValue) (v : FieldValue) (o : Option A) : Type 0 where
  pub made : (a : A) → o ≡ Some a → make a ≡ v
  pub only : (a : A) → make a ≡ v → o ≡ Some a

-- The value that the next event holds, where it is this field with such a value, which is of no other one.
abbrev pub TakesValue : {A : Type 0} → Field → (A → FieldValue) → Option A → (old new : FrameEvents) → Type 0
TakesValue {A} f make (Some a) old new =
    IsSound old × (left old ≡ Holds f (make a) ∷ left new) × IsSound new × ((b : A) → make b ≡ make a → b ≡ a)
TakesValue {A} f make None old new =
    (new.fault ≡ old.fault) × (IsSound old → (a : A) (rest : List Event) → left old ≡ Holds f (make a) ∷ rest → ⊥)

-- Where nothing was refused, the events of this value came first, P holds of it, and of no other such value did they come.
-- Where it was refused now, they are those of no such value. Of what memory was refused for nothing is said.
pub record Builds {A : Type 0} (emitted : A → List Event) (P : A → Type 0) (a : A) (old new : FrameEvents) : Type 0 where
  pub made : IsSound new → IsSound old × (left old ≡ emitted a ++ left new) × P a
  pub only : IsSound new → (b : A) (rest : List Event) → P b → left old ≡ emitted b ++ rest → (b ≡ a) × (rest ≡ left new)
  pub none :
      IsRefused new
      → IsRefused old ⊎ (IsSound old × ((b : A) (rest : List Event) → P b → left old ≡ emitted b ++ rest → ⊥))

-- no more events are left than were
abbrev pub HoldsNoMore : (old new : FrameEvents) → Type 0
HoldsNoMore old new = length new.items.items ≤ length old.items.items

-- no more are left, and fewer where something was taken
abbrev pub HoldsFewer : {A : Type 0} → Option A → (old new : FrameEvents) → Type 0
HoldsFewer (Some a) old new = length new.items.items < length old.items.items
HoldsFewer None old new = HoldsNoMore old new

-- nothing is asked
abbrev pub any : {A : Type 0} → A → Type 0
any a = true ≡ true

-- this many, and the test holds of each
abbrev pub Many : {A : Type 0} → (A → Bool) → (n : ℕ) → List A → Type 0
Many t n xs = (length xs ≡ n) × (list_all t xs ≡ true)
