-- What is built of the events that are held, one after the other.
use Rattle.std.specs.Prelude.{◌≡◌, ◌==◌, ◌<◌, ◌≤◌, ℕ, List, [], ◌∷◌, ◌++◌, ◌⊎◌, Bool, true, false, length, Option, Some, None, map}
use Rattle.cqlp_kind.specs.CellStep.{CellEvent, Leaf, Null, Empty, Enter, Leave, Part}
use Rattle.cqlp_value.specs.Owned.{atom_of}
use Rattle.cqlp_build_cells.specs.declared.held.Fault.{Fault}
use Rattle.cqlp_build_cells.specs.declared.held.Fault.TheVariants as fault
use Rattle.cqlp_build_cells.specs.declared.held.CellEvents.{CellEvents}
use Rattle.cqlp_build_cells.specs.declared.step.Step.{Step}
use Rattle.cqlp_build_cells.specs.declared.step.Step.TheVariants as step

-- the event that a step is at this level
abbrev pub emitted_at : (level : ℕ) → Step → CellEvent
emitted_at level (step.Leaf a) = Leaf level (atom_of a)
emitted_at level step.Null = Null level
emitted_at level step.Empty = Empty level
emitted_at level (step.Enter k n) = Enter level k n
emitted_at level (step.Leave n) = Leave level n

abbrev pub emitted_by : ℕ × Step → CellEvent
emitted_by s = emitted_at s.0 s.1

-- the events that are left
abbrev pub left : CellEvents → List CellEvent
left h = map emitted_by h.items.items

-- nothing was refused
abbrev pub IsSound : CellEvents → Type 0
IsSound h = h.fault ≡ None

abbrev pub IsRefused : CellEvents → Type 0
IsRefused h = h.fault ≡ Some fault.NoValue

-- the fault that was first
abbrev pub first_fault : Option Fault → Fault → Option Fault
first_fault None f = Some f
first_fault (Some g) f = Some g

-- how many values are around the value whose event it is
abbrev pub level_of : CellEvent → ℕ
level_of (Leaf level v) = level
level_of (Null level) = level
level_of (Empty level) = level
level_of (Enter level k items) = level
level_of (Leave level items) = level
level_of (Part level offset c last) = level

-- What comes next at this level, which is taken; where nothing does, or at another level, nothing is said, and it is taken or not.
abbrev pub TakesStep : (level : ℕ) → Option Step → (old new : CellEvents) → Type 0
TakesStep level (Some s) old new = IsSound old × (left old ≡ emitted_at level s ∷ left new) × IsSound new
TakesStep level None old new =
    (new.fault ≡ old.fault) × (IsSound old → (e : CellEvent) (rest : List CellEvent) → left old ≡ e ∷ rest → level_of e ≡ level → ⊥)

-- the end of a value after this many items
abbrev pub leaves : Option Step → (items : ℕ) → Bool
leaves (Some (step.Leave n)) items = n == items
leaves o items = false

-- the end of a value
abbrev pub is_leave : CellEvent → Bool
is_leave (Leave level items) = true
is_leave e = false

abbrev pub begins_with_leave : List CellEvent → Bool
begins_with_leave [] = false
begins_with_leave (e ∷ es) = is_leave e

-- Where nothing was refused, the events of this value came first, P holds of it, and of no other such value did they come.
-- Where it was refused now, they are those of no such value. Of what memory was refused for nothing is said.
pub record Builds {A : Type 0} (emitted : A → List CellEvent) (P : A → Type 0) (a : A) (old new : CellEvents) : Type 0 where
  pub made : IsSound new → IsSound old × (left old ≡ emitted a ++ left new) × P a
  pub only : IsSound new → (b : A) (rest : List CellEvent) → P b → left old ≡ emitted b ++ rest → (b ≡ a) × (rest ≡ left new)
  pub none :
      IsRefused new
      → IsRefused old ⊎ (IsSound old × ((b : A) (rest : List CellEvent) → P b → left old ≡ emitted b ++ rest → ⊥))

-- no more events are left than were
abbrev pub HoldsNoMore : (old new : CellEvents) → Type 0
HoldsNoMore old new = length new.items.items ≤ length old.items.items

-- no more are left, and fewer where something was taken
abbrev pub HoldsFewer : {A : Type 0} → Option A → (old new : CellEvents) → Type 0
HoldsFewer (Some a) old new = length new.items.items < length old.items.items
HoldsFewer None old new = HoldsNoMore old new

-- nothing is asked
abbrev pub any : {A : Type 0} → A → Type 0
any a = true ≡ true
