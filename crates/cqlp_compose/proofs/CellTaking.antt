-- What becomes of an event that was taken.
use Rattle.std.proofs.Common.{◌≡◌, Bool, true, false, Result, Ok, Err, inr}
use Rattle.cqlp_grammar.specs.Events.{Event}
use Rattle.cqlp_build_cells.specs.declared.error.CellError.TheVariants as cell_error
use Rattle.cqlp_build_cells.specs.Building.{CellState, TakesEvent, ends_cell}
use Rattle.cqlp_compose.specs.declared.error.PageCellError.{PageCellError}
use Rattle.cqlp_compose.specs.declared.error.PageCellError.TheVariants as error
use Rattle.cqlp_compose.specs.Cells.{CellsState, Ends, GoesOn, Takes, is_next, within}

pub goes_true : (b : Bool) (s : CellsState) (r : Result (Unit {0}) PageCellError) (new : CellsState) → b ≡ true → Ends s r new → GoesOn b s r new
goes_true true s r new e x = x
goes_true false s r new e x = absurd cc

pub goes_false : (b : Bool) (s new : CellsState) → b ≡ false → new ≡ record s { cut = true } → GoesOn b s (Ok tt) new
goes_false false s new e x = x
goes_false true s new e x = absurd cc

-- the end of a cell is never misplaced
not_misplaced : {A : Type 0} (b : Bool) (s new : CellsState) → GoesOn b s (Err (error.Cell cell_error.Misplaced)) new → A
not_misplaced true s new g = absurd g.0
not_misplaced false s new g = absurd g

pub next_taken : (old : CellsState) (e : Event) (under : CellState) (r : Result (Unit {0}) PageCellError) (new : CellsState) → is_next old e ≡ true → TakesEvent old.under e (Ok tt) under → GoesOn (ends_cell e) (within old under) r new
    → Takes old e r new
next_taken old e under (Ok u) new n t g = (n, under, t, g)
next_taken old e under (Err error.PastLength) new n t g = (n, under, t, g)
next_taken old e under (Err error.NotEnded) new n t g = (n, under, t, g)
next_taken old e under (Err (error.Cell cell_error.Misplaced)) new n t g = not_misplaced (ends_cell e) (within old under) new g
next_taken old e under (Err (error.Cell cell_error.InParts)) new n t g = inr (n, under, t, g)
next_taken old e under (Err (error.Cell cell_error.TooManyEvents)) new n t g = inr (n, under, t, g)
next_taken old e under (Err (error.Cell cell_error.TooManyBytes)) new n t g = inr (n, under, t, g)
next_taken old e under (Err (error.Cell cell_error.Unformed)) new n t g = inr (n, under, t, g)
next_taken old e under (Err (error.Cell cell_error.NoValue)) new n t g = inr (n, under, t, g)
next_taken old e under (Err (error.Cell cell_error.NoMemory)) new n t g = inr (n, under, t, g)
