-- What becomes of the events of a page's cells (section 4.2.5.2 of native_protocol_v4.spec).
use Rattle.std.specs.Prelude.{◌≡◌, ◌==◌, ◌&&◌, ◌<◌, ◌≤◌, ◌+◌, ◌-◌, ◌/◌, ◌%◌, ◌++◌, ◌⊎◌, ℕ, Bool, true, false, nat_lt, min, List, [], Result, Ok, Err}
use Rattle.cqlp_note.specs.declared.header.TheConstants.Header.{LONGEST_BODY}
use Rattle.cqlp_kind.specs.CellStep as cell
use Rattle.cqlp_grammar.specs.Events.{Event, Cell_at, Leave}
use Rattle.cqlp_value.specs.declared.value.Value.{Value}
use Rattle.cqlp_value.specs.Owned.{value_of}
use Rattle.cqlp_value.specs.Values.{AreInRange, Values, values_bytes, values_size}
use Rattle.cqlp_message.specs.declared.frame.Frame.{Frame}
use Rattle.cqlp_message.specs.Owned.{frame_of}
use Rattle.cqlp_message.specs.FrameValues.{FrameValue}
use Rattle.cqlp_message.specs.Pages.{cells_wanted, page_columns}
use Rattle.cqlp_build_cells.specs.declared.builder.CellLimits.{CellLimits}
use Rattle.cqlp_build_cells.specs.declared.error.CellError.{CellError}
use Rattle.cqlp_build_cells.specs.declared.error.CellError.TheVariants as cell_error
use Rattle.cqlp_build_cells.specs.Building as building
use Rattle.cqlp_build_cells.specs.Building.{CellState, Finishes, TakesEvent, empty, ends_cell}
use Rattle.cqlp_compose.specs.declared.cells.PageCells.{PageCells}
use Rattle.cqlp_compose.specs.declared.cells.WrittenCells.{WrittenCells}
use Rattle.cqlp_compose.specs.declared.error.PageCellError.{PageCellError}
use Rattle.cqlp_compose.specs.declared.error.PageCellError.TheVariants as error
use Rattle.cqlp_compose.specs.declared.place.PageProgress.{PageProgress}
use Rattle.cqlp_compose.specs.Places.{described_type}

-- The page without its cells, and where it is behind those that were written; the cell under way, and whether it has begun; and
-- the bytes of those that were written here.
pub record CellsState : Type 0 where
  pub frame : Frame
  pub place : PageProgress
  pub under : CellState
  pub cut : Bool
  pub bytes : List ℕ

abbrev pub state : PageCells → CellsState
state c = record { frame = c.frame.now; place = c.place; under = building.state c.cell; cut = c.cut; bytes = c.target.bytes.items }

-- what the page without its cells holds
abbrev pub page : CellsState → FrameValue
page s = frame_of s.frame

-- none has come behind this place
abbrev pub begun : Frame → PageProgress → CellLimits → CellsState
begun f p limits = record { frame = f; place = p; under = empty limits; cut = false; bytes = [] }

-- ---- the next cell

-- the row and the column of the next cell
abbrev pub next_row : CellsState → ℕ
next_row s = s.place.cells / page_columns (page s).message

abbrev pub next_column : CellsState → ℕ
next_column s = s.place.cells % page_columns (page s).message

-- an event names this row and this column, or is the end of a value, which names none
abbrev pub is_at : (row column : ℕ) → Event → Bool
is_at row column (Cell_at r c (cell.Leave level items)) = false
is_at row column (Cell_at r c e) = (r == row) && (c == column)
is_at row column (Leave level items) = true
is_at row column e = false

-- cells are still to come, and the event can be of the next
abbrev pub is_next : CellsState → Event → Bool
is_next s e = nat_lt s.place.cells (cells_wanted (page s).message) && is_at (next_row s) (next_column s) e

-- ---- the end of a cell

-- the cell under way is forgotten
abbrev pub without_cell : CellsState → CellsState
without_cell s = record s { under = empty s.under.limits; cut = false }

-- this value is the next cell
abbrev pub with_cell : CellsState → Values → CellsState
with_cell s v = record {
  frame = s.frame;
  place = record { cells = s.place.cells + 1; free = s.place.free - values_size v };
  under = empty s.under.limits;
  cut = false;
  bytes = s.bytes ++ values_bytes v;
}

-- as many bytes as cells can still have
abbrev pub room : CellsState → ℕ
room s = min s.place.free LONGEST_BODY

-- What is made of the events of a cell of this column: a value, or why there is none.
abbrev pub IsOfColumn : CellsState → Result Value CellError → Type 0
IsOfColumn s r = Finishes s.under.events (described_type s.frame (next_column s)) r

-- Memory was refused for the value that has its events, or for the bytes of that value, for which there is room.
abbrev pub LacksMemory : CellsState → Type 0
LacksMemory s = IsOfColumn s (Err cell_error.NoMemory) ⊎ ((v : Value) × IsOfColumn s (Ok v) × (values_size (value_of v) ≤ room s))

-- What becomes of the cell under way that ends: the value that has its events, whose numbers are in their ranges, is written, and is the next cell; or there is none, or
-- it is too long, or memory was refused, and the cell is forgotten.
abbrev pub Ends : CellsState → Result (Unit {0}) PageCellError → CellsState → Type 0
Ends old (Ok u) new =
    (v : Value) × IsOfColumn old (Ok v) × (values_size (value_of v) ≤ room old) × (new ≡ with_cell old (value_of v)) × AreInRange (value_of v)
Ends old (Err error.PastLength) new =
    (v : Value) × IsOfColumn old (Ok v) × (room old < values_size (value_of v)) × (new ≡ without_cell old)
Ends old (Err (error.Cell cell_error.NoMemory)) new = LacksMemory old × (new ≡ without_cell old)
Ends old (Err (error.Cell why)) new = IsOfColumn old (Err why) × (new ≡ without_cell old)
Ends old (Err error.NotEnded) new = ⊥

-- The bytes of a value are appended, and it is the next cell; or memory was refused, and nothing changes.
abbrev pub Puts : CellsState → Value → Result (Unit {0}) PageCellError → CellsState → Type 0
Puts old v (Ok u) new =
    new ≡ record old {
      place = record { cells = old.place.cells + 1; free = old.place.free - values_size (value_of v) };
      bytes = old.bytes ++ values_bytes (value_of v);
    }
Puts old v (Err (error.Cell cell_error.NoMemory)) new = new ≡ old
Puts old v (Err e) new = ⊥

-- ---- events

-- the state with these events of the cell under way
abbrev pub within : CellsState → CellState → CellsState
within s u = record s { under = u }

-- An event of the cell under way was taken: the cell ends, or goes on.
abbrev pub GoesOn : (ends : Bool) → CellsState → Result (Unit {0}) PageCellError → CellsState → Type 0
GoesOn true s r new = Ends s r new
GoesOn false s (Ok u) new = new ≡ record s { cut = true }
GoesOn false s (Err e) new = ⊥

-- The event was taken as the next of the cell under way, and this became of the cell.
abbrev pub TakesNext : CellsState → Event → Result (Unit {0}) PageCellError → CellsState → Type 0
TakesNext old e r new =
    (is_next old e ≡ true) × (under : CellState) × TakesEvent old.under e (Ok tt) under × GoesOn (ends_cell e) (within old under) r new

-- It was not, for this reason, and nothing changes.
abbrev pub NotTaken : CellsState → Event → CellError → CellsState → Type 0
NotTaken old e why new = (is_next old e ≡ true) × TakesEvent old.under e (Err why) old.under × (new ≡ old)

-- What becomes of an event: one that is not of the next cell is misplaced, and nothing changes.
abbrev pub Takes : CellsState → Event → Result (Unit {0}) PageCellError → CellsState → Type 0
Takes old e (Ok u) new = TakesNext old e (Ok u) new
Takes old e (Err (error.Cell cell_error.Misplaced)) new =
    ((is_next old e ≡ false) × (new ≡ old)) ⊎ NotTaken old e cell_error.Misplaced new
Takes old e (Err (error.Cell why)) new = NotTaken old e why new ⊎ TakesNext old e (Err (error.Cell why)) new
Takes old e (Err why) new = TakesNext old e (Err why) new

-- ---- the end

-- the bytes and the place, where no cell is under way
abbrev pub Gives : CellsState → Result WrittenCells PageCellError → Type 0
Gives s (Ok w) = (s.cut ≡ false) × (w.place ≡ s.place) × (w.bytes.items ≡ s.bytes)
Gives s (Err error.NotEnded) = s.cut ≡ true
Gives s (Err e) = ⊥
