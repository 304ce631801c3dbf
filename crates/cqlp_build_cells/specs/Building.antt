-- What becomes of the events of cells, one after the other.
use Rattle.std.specs.Prelude.{◌≡◌, ⊤, ℕ, ◌-◌, ◌==◌, ◌&&◌, ◌<◌, ◌≤◌, ◌++◌, Bool, true, false, List, [], ◌∷◌, length, map}
use Rattle.std.specs.Prelude.{Option, Some, None, Result, Ok, Err}
use Rattle.cqlp_note.specs.Limits.{Rules}
use Rattle.cqlp_kind.specs.Types.{Types}
use Rattle.cqlp_kind.specs.CellStep as cell
use Rattle.cqlp_kind.specs.CellStep.{CellEvent}
use Rattle.cqlp_kind.specs.Scalars.{ScalarValue, Custom, Ascii, Blob, Decimal, Varchar, Varint, Raw}
use Rattle.cqlp_type.specs.Trees.{are_trees}
use Rattle.cqlp_type.specs.TypeTrees.{tree_of}
use Rattle.cqlp_type.specs.declared.tree.TypeTree.{TypeTree}
use Rattle.cqlp_grammar.specs.Events.{Event, Cell_at, Leave}
use Rattle.cqlp_value.specs.declared.value.Value.{Value}
use Rattle.cqlp_value.specs.Owned.{cell_type, value_of}
use Rattle.cqlp_value.specs.Values.{Values, values_fit, values_items}
use Rattle.cqlp_build_cells.specs.declared.builder.CellBuilder.{CellBuilder}
use Rattle.cqlp_build_cells.specs.declared.builder.CellLimits.{CellLimits}
use Rattle.cqlp_build_cells.specs.declared.error.CellError.{CellError}
use Rattle.cqlp_build_cells.specs.declared.error.CellError.TheVariants as error
use Rattle.cqlp_build_cells.specs.declared.held.Fault.{Fault}
use Rattle.cqlp_build_cells.specs.declared.held.Fault.TheVariants as fault
use Rattle.cqlp_build_cells.specs.declared.held.CellEvents.{CellEvents}
use Rattle.cqlp_build_cells.specs.CellEvents.{left}

-- ---- the events of a value

-- The events are those of this value of this type, wherever its bytes lie, within some limits.
pub record AreEventsOf (es : List CellEvent) (ts : Types) (v : Values) : Type 0 where
  pub rules : Rules
  pub at : ℕ
  pub are : map (λ e. e.1) (values_items rules 0 at ts v) ≡ es

-- The value is one of this type and has these events, and no other one has them.
pub record IsBuiltOf (es : List CellEvent) (ts : Types) (v : Values) : Type 0 where
  pub are : AreEventsOf es ts v
  pub fits : values_fit ts v ≡ true
  pub only : (w : Values) → values_fit ts w ≡ true → AreEventsOf es ts w → w ≡ v

-- No value of this type has these events.
abbrev pub AreOfNone : List CellEvent → Types → Type 0
AreOfNone es ts = (v : Values) → values_fit ts v ≡ true → AreEventsOf es ts v → ⊥

-- each kind in the type has the inner types that it takes
abbrev pub is_formed : Option TypeTree → Bool
is_formed None = true
is_formed (Some t) = are_trees (tree_of t)

-- What is made of the events of a cell of this type: the value that has them, or why there is none.
abbrev pub Finishes : List CellEvent → Option TypeTree → Result Value CellError → Type 0
Finishes es t (Ok v) = (is_formed t ≡ true) × IsBuiltOf es (cell_type t) (value_of v)
Finishes es t (Err error.Unformed) = is_formed t ≡ false
Finishes es t (Err error.NoValue) = (is_formed t ≡ true) × AreOfNone es (cell_type t)
Finishes es t (Err error.NoMemory) = is_formed t ≡ true
Finishes es t (Err e) = ⊥

-- The same of a type that is formed.
abbrev pub FinishesAs : List CellEvent → Types → Result Value CellError → Type 0
FinishesAs es ts (Ok v) = IsBuiltOf es ts (value_of v)
FinishesAs es ts (Err error.NoValue) = AreOfNone es ts
FinishesAs es ts (Err error.NoMemory) = ⊤
FinishesAs es ts (Err e) = ⊥

-- why there is none
abbrev pub refusal_of : Fault → CellError
refusal_of fault.NoValue = error.NoValue
refusal_of fault.NoMemory = error.NoMemory

-- ---- states

-- The row and the column of the cell under way, of which there are none between cells; its events; how many bytes of contents
-- may still come; and the limits.
pub record CellState : Type 0 where
  pub place : Option (ℕ × ℕ)
  pub events : List CellEvent
  pub room : ℕ
  pub limits : CellLimits

abbrev pub events_in : Option (ℕ × ℕ) → CellEvents → List CellEvent
events_in None held = []
events_in (Some p) held = left held

abbrev pub state : CellBuilder → CellState
state b = record { place = b.place; events = events_in b.place b.held; room = b.room; limits = b.limits }

-- between cells
abbrev pub empty : CellLimits → CellState
empty l = record { place = None; events = []; room = l.bytes; limits = l }

-- ---- events

-- what an event is of a cell
abbrev pub cell_of : Event → Option CellEvent
cell_of (Cell_at row column e) = Some e
cell_of (Leave level items) = Some (cell.Leave level items)
cell_of e = None

-- Of the cell under way, or the first of a cell. The end of a value does not name its cell.
abbrev pub is_of : Option (ℕ × ℕ) → Event → Bool
is_of None (Cell_at row column e) = true
is_of (Some p) (Cell_at row column e) = (row == p.0) && (column == p.1)
is_of (Some p) (Leave level items) = true
is_of place e = false

abbrev pub is_part : Event → Bool
is_part (Cell_at row column (cell.Part level offset c last)) = true
is_part e = false

-- an event of a cell but a part of a scalar
abbrev pub is_whole : Event → Bool
is_whole (Cell_at row column (cell.Part level offset c last)) = false
is_whole (Cell_at row column e) = true
is_whole (Leave level items) = true
is_whole e = false

-- Nothing of the cell comes after it: at level 0 it is anything but the beginning of a value with items, or a part that is not the last.
abbrev pub ends : CellEvent → Bool
ends (cell.Enter level k items) = false
ends (cell.Leaf level v) = level == 0
ends (cell.Null level) = level == 0
ends (cell.Empty level) = level == 0
ends (cell.Leave level items) = level == 0
ends (cell.Part level offset c last) = (level == 0) && last

abbrev pub ends_cell : Event → Bool
ends_cell (Cell_at row column e) = ends e
ends_cell (Leave level items) = level == 0
ends_cell e = false

-- the row and the column that an event names
abbrev pub place_of : Event → Option (ℕ × ℕ)
place_of (Cell_at row column e) = Some (row, column)
place_of e = None

abbrev pub place_after : Event → Option (ℕ × ℕ) → Option (ℕ × ℕ)
place_after (Cell_at row column e) place = Some (row, column)
place_after e place = place

-- the bytes of a scalar that has no length of its own; a decimal's scale is not among them
abbrev pub scalar_size : ScalarValue → ℕ
scalar_size (Custom c) = length c
scalar_size (Ascii c) = length c
scalar_size (Blob c) = length c
scalar_size (Decimal scale c) = length c
scalar_size (Varchar c) = length c
scalar_size (Varint c) = length c
scalar_size (Raw c) = length c
scalar_size v = 0

-- the bytes of an event that the limit counts
abbrev pub content_size : Event → ℕ
content_size (Cell_at row column (cell.Leaf level v)) = scalar_size v
content_size e = 0

-- the state with this event, which is e of the cell
abbrev pub with_event : CellState → Event → CellEvent → CellState
with_event s event e = record {
  place = place_after event s.place;
  events = s.events ++ e ∷ [];
  room = s.room - content_size event;
  limits = s.limits;
}

-- fewer events than are allowed have come before it
abbrev pub HasPlace : CellState → Type 0
HasPlace s = length s.events < s.limits.events

-- What an event is answered that is of the cell and no part, and what the state is after it.
abbrev pub Answers : CellState → Event → Result (Unit {0}) CellError → CellState → Type 0
Answers old event (Ok u) new =
    HasPlace old × (content_size event ≤ old.room) × (e : CellEvent) × (cell_of event ≡ Some e) × (new ≡ with_event old event e)
Answers old event (Err error.TooManyEvents) new = (old.limits.events ≤ length old.events) × (new ≡ old)
Answers old event (Err error.TooManyBytes) new = HasPlace old × (old.room < content_size event) × (new ≡ old)
Answers old event (Err error.NoMemory) new = HasPlace old × (content_size event ≤ old.room) × (new ≡ old)
Answers old event (Err e) new = ⊥

-- What becomes of an event: one that is not of the cell is misplaced, and a part is refused as that; in both nothing changes.
abbrev pub TakesEvent : CellState → Event → Result (Unit {0}) CellError → CellState → Type 0
TakesEvent old event (Err error.Misplaced) new = (is_of old.place event ≡ false) × (new ≡ old)
TakesEvent old event (Err error.InParts) new = (is_of old.place event ≡ true) × (is_part event ≡ true) × (new ≡ old)
TakesEvent old event r new = (is_of old.place event ≡ true) × (is_part event ≡ false) × Answers old event r new
