-- Plain cells: scalars, nulls and empty values, each of which is one event.
use Rattle.std.specs.Prelude.{ℕ, zero, suc, ◌+◌, ◌/◌, ◌%◌, ◌^◌, ◌&&◌, Bool, true, false, List, [], ◌∷◌, get_or}
use Rattle.cqlp_kind.specs.declared.kind.Kind.{Kind}
use Rattle.cqlp_kind.specs.declared.kind.Kind.TheVariants as kind
use Rattle.cqlp_kind.specs.Types.{Types, NoMore, Type_and}
use Rattle.cqlp_value.specs.Values.{Values, NoValue, Null_and, Empty_and, Scalar_and, Counted_and, Fields_and, value_fits}
use Rattle.cqlp_value.specs.Owned.{value_of}
use Rattle.cqlp_value.specs.declared.value.Value.{Value, Null, Empty, Leaf, List', Map', Set', Tuple', Udt'}
use Rattle.cqlp_message.specs.Parts.{Part, Field_is, Type_is, Cell_is}
use Rattle.cqlp_build_cells.specs.declared.step.Step.{Step}
use Rattle.cqlp_build_cells.specs.declared.step.Step.TheVariants as step
use Rattle.cqlp_build.specs.declared.item.Item.{Item}
use Rattle.cqlp_build.specs.declared.item.Item.TheVariants as item

-- the event that a plain value is; of any other nothing is meant
abbrev pub step_of : Value → Step
step_of (Leaf a) = step.Leaf a
step_of Null = step.Null
step_of Empty = step.Empty
step_of (List' shape items) = step.Empty
step_of (Map' shape pairs) = step.Empty
step_of (Set' shape items) = step.Empty
step_of (Tuple' shape items) = step.Empty
step_of (Udt' shape items) = step.Empty

-- the event of the cell of this number, where the cells lie row by row and the last column of each has this number
abbrev pub cell_item : (last at : ℕ) → Value → Item
cell_item last at v = item.Cell (at / (last + 1) % 2 ^ 32) (at % (last + 1)) 0 (step_of v)

-- the events of cells, the first of which has this number
abbrev pub run_items : (last at : ℕ) → List Value → List Item
run_items last at [] = []
run_items last at (v ∷ vs) = cell_item last at v ∷ run_items last (at + 1) vs

abbrev pub is_plain : Values → Bool
is_plain (Null_and vs) = true
is_plain (Empty_and vs) = true
is_plain (Scalar_and a vs) = true
is_plain (Counted_and k n items vs) = false
is_plain (Fields_and k items vs) = false
is_plain NoValue = false

-- the kind of a column, which is raw where none is known
abbrev pub kind_at : List Kind → (column : ℕ) → Kind
kind_at kinds column = get_or kinds column kind.Raw

-- the types of this many columns, the first of which has this number
abbrev pub kind_types : List Kind → (column n : ℕ) → Types
kind_types kinds column zero = NoMore
kind_types kinds column (suc n) = Type_and (kind_at kinds column) NoMore (kind_types kinds (column + 1) n)

-- a plain value of this kind
abbrev pub is_of_kind : Kind → Value → Bool
is_of_kind k v = is_plain (value_of v) && value_fits k NoMore (value_of v)

-- each cell, the first of which has this number, is a plain value of its column's kind
abbrev pub fits_run : (last at : ℕ) → List Kind → List Value → Bool
fits_run last at kinds [] = true
fits_run last at kinds (v ∷ vs) = is_of_kind (kind_at kinds (at % (last + 1))) v && fits_run last (at + 1) kinds vs

-- a cell that is a plain value of its type
abbrev pub is_plain_cell : Part → Bool
is_plain_cell (Cell_is row column k inner v) = is_plain v && value_fits k inner v
is_plain_cell (Field_is f n v) = true
is_plain_cell (Type_is t) = true
