-- Cells among events.
use Rattle.std.specs.Prelude.{ℕ, ◌==◌, List, [], ◌∷◌, if◌then◌else◌}
use Rattle.std.specs.List.{flat_map, sum_by}
use Rattle.cqlp_kind.specs.CellStep.{CellEvent}
use Rattle.cqlp_kind.specs.CellStep as cell
use Rattle.cqlp_grammar.specs.Events.{Event}
use Rattle.cqlp_grammar.specs.Events as reading
use Rattle.cqlp_columns.specs.declared.found.Found as found
use Rattle.cqlp_columns.specs.declared.found.Found.TheVariants as is
use Rattle.cqlp_columns.specs.Cells.{Cell, Null, Empty, Holds, cell_in}

-- What an event has of a page's cells: nothing, a part of a cell, or the cell of a column. A part is a value with items, its end, an item, or
-- bytes of a long content.
pub data Finding : Type 0 where
  Nothing Part : Finding
  Whole : (column : ℕ) → Cell → Finding

-- a value with so many values around it
abbrev pub found_at : (column level : ℕ) → Cell → Finding
found_at column level c = if level == 0 then Whole column c else Part

abbrev pub found_in_cell : (column : ℕ) → CellEvent → Finding
found_in_cell column (cell.Leaf level v) = found_at column level (Holds v)
found_in_cell column (cell.Null level) = found_at column level Null
found_in_cell column (cell.Empty level) = found_at column level Empty
found_in_cell column (cell.Enter level k items) = Part
found_in_cell column (cell.Leave level items) = Part
found_in_cell column (cell.Part level offset bytes last) = Part

abbrev pub found_in : Event → Finding
found_in (reading.Cell_at row column e) = found_in_cell column e
found_in (reading.Leave level items) = Part
found_in (reading.Frame h) = Nothing
found_in (reading.Holds f v) = Nothing
found_in (reading.Node_of k) = Nothing
found_in (reading.End n) = Nothing

-- wherever its content lies
abbrev pub finding_of : found.Found → Finding
finding_of is.Nothing = Nothing
finding_of is.Part = Part
finding_of (is.Cell column c) = Whole column (cell_in c)

-- the cell of a column, if it is one
abbrev pub cells_at : (column : ℕ) → Finding → List Cell
cells_at k Nothing = []
cells_at k Part = []
cells_at k (Whole column c) = if column == k then c ∷ [] else []

-- the cells of a column among events, in order
abbrev pub cells_among : (column : ℕ) → List Event → List Cell
cells_among k es = flat_map (λ e. cells_at k (found_in e)) es

-- how many cells it is
abbrev pub cells_of : Finding → ℕ
cells_of Nothing = 0
cells_of Part = 0
cells_of (Whole column c) = 1

-- how many cells there are among events
abbrev pub cell_count : List Event → ℕ
cell_count es = sum_by (λ e. cells_of (found_in e)) es
