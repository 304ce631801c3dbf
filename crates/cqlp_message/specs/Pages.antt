-- Pages whose cells are written one by one, after all else of their frame (section 4.2.5.2 of native_protocol_v4.spec).
use Rattle.std.specs.Prelude.{◌≡◌, ℕ, zero, suc, ◌+◌, ◌*◌, ◌++◌, ◌==◌, Bool, true, false, not, List, [], ◌∷◌, length, Option, Some, None}
use Rattle.std.specs.Prelude.{nat_lt}
use Rattle.std.specs.List.{flat_map, list_all}
use Rattle.std.specs.declared.alloc.Global.{Global}
use Rattle.std.specs.declared.vec.Vec.{Vec}
use Rattle.cqlp_note.specs.declared.header.TheConstants.Header.{LONGEST_BODY}
use Rattle.cqlp_note.specs.Heading.{header_bytes}
use Rattle.cqlp_kind.specs.Types.{Types, NoMore, Type_and}
use Rattle.cqlp_value.specs.Values.{Values, value_fits, values_size, values_bytes}
use Rattle.cqlp_message.specs.declared.unfit.Unfit.{Unfit}
use Rattle.cqlp_message.specs.declared.unfit.Unfit.TheVariants as unfit
use Rattle.cqlp_message.specs.declared.response.Spec.{Spec}
use Rattle.cqlp_message.specs.declared.message.Message.{Message as OwnedMessage}
use Rattle.cqlp_message.specs.declared.message.Message.TheVariants as owned
use Rattle.cqlp_message.specs.FrameValues.{Message, Rows, FrameValue}
use Rattle.cqlp_message.specs.Parts.{parts_size, parts_bytes, cell_fits}
use Rattle.cqlp_message.specs.Bodies.{cell_types}
use Rattle.cqlp_message.specs.Frames.{frame_parts, header_of, frame_bytes, frame_size, unfit_of, first_obstacles, first_of}

-- ---- a page without cells

-- a page that holds no cells
abbrev pub is_bare : Message → Bool
is_bare (Rows p) = length p.cells == 0
is_bare m = false

-- how many cells a page has, once it has all
abbrev pub cells_wanted : Message → ℕ
cells_wanted (Rows p) = p.rows * p.meta.columns
cells_wanted m = 0

-- What keeps a frame from being written with cells of this many bytes after it, each with its name, in the order in
-- which it is reported.
abbrev pub page_obstacles : FrameValue → (cells : ℕ) → List (Bool × Unfit)
page_obstacles f n =
    first_obstacles f
    ++ (not (is_bare f.message), unfit.RowShape)
    ∷ (nat_lt LONGEST_BODY (parts_size (frame_parts f) + n), unfit.BodyTooLong)
    ∷ []

-- Why a frame is no page that can be written with cells of this many bytes after it, or None where it is one.
abbrev pub page_unfit_of : FrameValue → (cells : ℕ) → Option Unfit
page_unfit_of f n = first_of (page_obstacles f n)

-- What is written before the first cell: the header, whose length counts the cells, and all parts that are no cells.
abbrev pub page_head : FrameValue → (cells : ℕ) → List ℕ
page_head f n = header_bytes (header_of f (parts_size (frame_parts f) + n)) ++ parts_bytes (frame_parts f)

-- ---- its cells

abbrev pub filled : Message → List Values → Message
filled (Rows p) cells = Rows (record { meta = p.meta; rows = p.rows; cells = cells })
filled m cells = m

-- the frame with these cells
abbrev pub with_cells : FrameValue → List Values → FrameValue
with_cells f cells = record {
  flags = f.flags;
  stream = f.stream;
  tracing = f.tracing;
  warnings = f.warnings;
  payload = f.payload;
  message = filled f.message cells;
}

-- how many columns a page's cells are of
abbrev pub page_columns : Message → ℕ
page_columns (Rows p) = p.meta.columns
page_columns m = 0

abbrev pub specs_among : Option (Vec Spec Global) → List Spec
specs_among (Some specs) = specs.items
specs_among None = []

-- the columns that a page describes; none where it describes none, and where it is no page
abbrev pub columns_described : OwnedMessage → List Spec
columns_described (owned.Rows p) = specs_among p.meta.specs
columns_described m = []

-- the types of a page's columns
abbrev pub types_of_page : Message → Types
types_of_page (Rows p) = cell_types p.meta
types_of_page m = NoMore

-- a value is one of the type of this column, the first of which is 0
abbrev pub fits_column : Types → (column : ℕ) → Values → Bool
fits_column NoMore column v = false
fits_column (Type_and k inner others) zero v = value_fits k inner v
fits_column (Type_and k inner others) (suc column) v = fits_column others column v

-- these first cells of a page are values of their columns' types
abbrev pub cells_fit : FrameValue → List Values → Bool
cells_fit f cells = list_all cell_fits (frame_parts (with_cells f cells))

-- the bytes of these cells
abbrev pub cells_bytes : List Values → List ℕ
cells_bytes cells = flat_map values_bytes cells

abbrev pub cells_size : List Values → ℕ
cells_size [] = 0
cells_size (v ∷ cells) = values_size v + cells_size cells

-- All cells of a page are there, each of its column's type, and they have this many bytes.
pub record AreItsCells (f : FrameValue) (n : ℕ) (cells : List Values) : Type 0 where
  pub number : length cells ≡ cells_wanted f.message
  pub fit : cells_fit f cells ≡ true
  pub size : cells_size cells ≡ n

-- ---- laws

-- A page that can be begun, and then all its cells, are together the bytes of the frame with those cells, which nothing
-- keeps from being spelled.
abbrev pub PagesAreFrames : Type 0
PagesAreFrames =
    (f : FrameValue) (n : ℕ) (cells : List Values) → page_unfit_of f n ≡ None → AreItsCells f n cells
    → (unfit_of (with_cells f cells) ≡ None)
    × (page_head f n ++ cells_bytes cells ≡ frame_bytes (with_cells f cells))
    × (frame_size f n ≡ frame_size (with_cells f cells) 0)
