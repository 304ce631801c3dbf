-- Cells of a page that are put into rooms, each as its last event comes.
use Rattle.std.specs.Prelude.{◌≡◌, ℕ, ◌<◌, ◌≤◌, Bool, true, false, List, [], length, Option, Some, None, Result, Ok, Err}
use Rattle.cqlp_grammar.specs.Events.{Event}
use Rattle.cqlp_message.specs.declared.frame.Frame.{Frame}
use Rattle.cqlp_build_cells.specs.declared.builder.CellLimits.{CellLimits}
use Rattle.cqlp_build_cells.specs.Building.{ends_cell}
use Rattle.cqlp_compose.specs.declared.place.PageProgress.{PageProgress}
use Rattle.cqlp_compose.specs.declared.cells.PageCells.{PageCells}
use Rattle.cqlp_compose.specs.declared.cells.WrittenCells.{WrittenCells}
use Rattle.cqlp_compose.specs.Cells.{CellsState, Gives, Takes, begun, state}
use Rattle.cqlp_compose.specs.declared.put.PutCells.{PutCells}
use Rattle.cqlp_compose.specs.declared.error.PutError.{PutError}
use Rattle.cqlp_compose.specs.declared.error.PutError.TheVariants as error

-- The page without its cells, what may be held of one cell, where the page is after the cells that were put, and the cell under way.
pub record PutterState : Type 0 where
  pub frame : Frame
  pub limits : CellLimits
  pub place : PageProgress
  pub cells : CellsState

-- what came of the next cell, of which nothing came where there is none
abbrev pub under_way : Frame → PageProgress → CellLimits → Option PageCells → CellsState
under_way f p limits None = begun f p limits
under_way f p limits (Some cells) = state cells

abbrev pub putter : PutCells → PutterState
putter c = record { frame = c.frame.now; limits = c.limits; place = c.place; cells = under_way c.frame.now c.place c.limits c.cells }

-- no event came after this place
abbrev pub fresh_putter : Frame → PageProgress → CellLimits → PutterState
fresh_putter f p limits = record { frame = f; limits = limits; place = p; cells = begun f p limits }

-- after this place no event of the next cell came
abbrev pub fresh : PutterState → PageProgress → PutterState
fresh s p = fresh_putter s.frame p s.limits

abbrev pub Answer : Type 0
Answer = Result (Option ℕ) PutError

-- what is given of a cell that came whole
abbrev pub AreGiven : CellsState → Type 0
AreGiven s = (w : WrittenCells) × Gives s (Ok w)

-- The cell that came whole is put into a room of n bytes, or has more bytes and is forgotten.
abbrev pub Ended : PutterState → (n : ℕ) → Answer → (bytes : List ℕ) → PutterState → Type 0
Ended old n (Ok (Some len)) bytes new =
    (bytes ≡ old.cells.bytes) × (len ≡ length bytes) × (length bytes ≤ n) × (new ≡ fresh old old.cells.place) × AreGiven old.cells
Ended old n (Err (error.NoRoom len)) bytes new =
    (bytes ≡ []) × (len ≡ length old.cells.bytes) × (n < length old.cells.bytes) × (new ≡ fresh old old.place)
Ended old n r bytes new = ⊥

-- the putter where this came of the cell under way
abbrev pub within : PutterState → CellsState → PutterState
within s cells = record { frame = s.frame; limits = s.limits; place = s.place; cells = cells }

-- An event was taken: the cell ends with it, or goes on, and nothing is put.
abbrev pub GoesOn : (ends : Bool) → PutterState → (n : ℕ) → Answer → (bytes : List ℕ) → PutterState → Type 0
GoesOn true s n r bytes new = Ended s n r bytes new
GoesOn false s n (Ok None) bytes new = (bytes ≡ []) × (new ≡ s)
GoesOn false s n r bytes new = ⊥

-- The event is taken, and this becomes of it.
abbrev pub PutsTaken : PutterState → Event → (n : ℕ) → Answer → (bytes : List ℕ) → PutterState → Type 0
PutsTaken old e n r bytes new =
    (mid : CellsState) × Takes old.cells e (Ok tt) mid × GoesOn (ends_cell e) (within old mid) n r bytes new

-- What becomes of an event where n bytes of room are left, and which bytes are put: where it is not taken, the cell is forgotten, and nothing is put.
abbrev pub Puts : PutterState → Event → (n : ℕ) → Answer → (bytes : List ℕ) → PutterState → Type 0
Puts old e n (Err (error.Cell why)) bytes new =
    (mid : CellsState) × Takes old.cells e (Err why) mid × (bytes ≡ []) × (new ≡ fresh old old.place)
Puts old e n r bytes new = PutsTaken old e n r bytes new
