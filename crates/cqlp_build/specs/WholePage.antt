-- All events that are held are the plain cells of a page.
use Rattle.std.specs.Prelude.{◌≡◌, ◌+◌, ◌*◌, ℕ, List, [], length, map, true, Option, Some, None}
use Rattle.std.specs.List.{list_all}
use Rattle.cqlp_value.specs.Owned.{value_of}
use Rattle.cqlp_value.specs.declared.value.Value.{Value}
use Rattle.cqlp_message.specs.Bodies.{cell_types, rows_parts}
use Rattle.cqlp_message.specs.FrameValues.{Metadata}
use Rattle.cqlp_build.specs.declared.item.Item.{Item}
use Rattle.cqlp_build.specs.Held.{Held}
use Rattle.cqlp_build.specs.Plain.{is_plain_cell, run_items}

-- A cell of each column of each row, row by row, each a plain value of its column's type.
abbrev pub ArePlain : Metadata → (rows : ℕ) → List Value → Type 0
ArePlain m rows cells = list_all is_plain_cell (rows_parts 0 (cell_types m) rows (map value_of cells)) ≡ true

-- The events are those of the cells of a page, and no others.
pub record IsWhole (m : Metadata) (rows : ℕ) (cells : List Value) (items : List Item) : Type 0 where
  pub last : ℕ
  pub columns : last + 1 ≡ m.columns
  pub items_are : items ≡ run_items last 0 cells
  pub many : length cells ≡ rows * m.columns
  pub plain : ArePlain m rows cells

-- The cells are taken where they are a whole page of plain cells, and nothing is left; otherwise nothing is taken.
abbrev pub TakesPage : Metadata → (rows : ℕ) → Option (List Value) → (old new : Held) → Type 0
TakesPage m rows (Some cells) old new = IsWhole m rows cells old.items × (new.items ≡ [])
TakesPage m rows None old new = new.items ≡ old.items
