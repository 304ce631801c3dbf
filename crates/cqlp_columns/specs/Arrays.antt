-- The arrays of a column, in the layout of Apache Arrow.
use Rattle.std.specs.Prelude.{◌≡◌, ℕ, ◌+◌, Bool, ◌&&◌, nat_le, nat_lt, List, [], ◌∷◌, ◌++◌, length, map, Option, Some, None, Result, Ok, Err, if◌then◌else◌}
use Rattle.std.specs.List.{flat_map}
use Rattle.std.specs.Ptr.{Ptr}
use Rattle.cqlp_kind.specs.declared.kind.Kind.{Kind}
use Rattle.cqlp_columns.specs.declared.layout.Layout.{Layout}
use Rattle.cqlp_columns.specs.declared.layout.Layout.TheVariants.{Bits, Fixed, Variable}
use Rattle.cqlp_columns.specs.declared.column.ColumnRefusal.{ColumnRefusal}
use Rattle.cqlp_columns.specs.declared.column.ColumnRefusal.TheVariants.{Full, NotOfKind}
use Rattle.cqlp_columns.specs.Bits.{Spells}
use Rattle.cqlp_columns.specs.Cells.{Cell, cell_bits, cell_bytes, is_empty, is_of, is_valid}

-- Where the arrays of a column begin in memory: the bytes of the values, the bytes of their bits, the offsets, and the bytes of the bits that say
-- which cells have a value, and which have one of no bytes.
pub record Places : Type 0 where
  pub values : Ptr
  pub truths : Ptr
  pub offsets : Ptr
  pub valid : Ptr
  pub empty : Ptr

-- a column's kind, and where its arrays lie
pub record Site : Type 0 where
  pub kind : Kind
  pub places : Places

abbrev pub site : Kind → Places → Site
site k p = record { kind = k; places = p }

-- A column: its kind, where its arrays lie, its layout, how many rows and bytes of values there is room for, and its arrays: the bytes of the
-- values, or their bits, where they begin and end, which cells have a value, and which have one of no bytes.
pub record Column : Type 0 where
  pub kind : Kind
  pub places : Places
  pub layout : Layout
  pub rows : ℕ
  pub size : ℕ
  pub values : List ℕ
  pub truths : List Bool
  pub offsets : List ℕ
  pub valid : List Bool
  pub empty : List Bool

-- an offset, where the layout has offsets
abbrev pub offset_in : Layout → ℕ → List ℕ
offset_in Bits n = []
offset_in (Fixed w) n = []
offset_in Variable n = n ∷ []

-- where each of these cells ends, from where the first begins
abbrev pub ends : Layout → (at : ℕ) → List Cell → List ℕ
ends l at [] = []
ends l at (c ∷ cs) = offset_in l (at + length (cell_bytes l c)) ++ ends l (at + length (cell_bytes l c)) cs

abbrev pub site_of : Column → Site
site_of a = site a.kind a.places

-- where the values begin: their bytes, or those of their bits
abbrev pub values_at : Layout → Places → Ptr
values_at Bits p = p.truths
values_at (Fixed n) p = p.values
values_at Variable p = p.values

-- the arrays of these cells
abbrev pub column_of : Site → Layout → (rows size : ℕ) → List Cell → Column
column_of s l rows size cells = record {
  kind = s.kind;
  places = s.places;
  layout = l;
  rows = rows;
  size = size;
  values = flat_map (cell_bytes l) cells;
  truths = flat_map (cell_bits l) cells;
  offsets = offset_in l 0 ++ ends l 0 cells;
  valid = map (is_valid l) cells;
  empty = map is_empty cells;
}

-- with one more cell
abbrev pub with_cell : Cell → Column → Column
with_cell c a = record a {
  values = a.values ++ cell_bytes a.layout c;
  truths = a.truths ++ cell_bits a.layout c;
  offsets = a.offsets ++ offset_in a.layout (length a.values + length (cell_bytes a.layout c));
  valid = a.valid ++ is_valid a.layout c ∷ [];
  empty = a.empty ++ is_empty c ∷ [];
}

-- There is room for a cell.
abbrev pub fits : Cell → Column → Bool
fits c a = nat_lt (length a.valid) a.rows && nat_le (length (cell_bytes a.layout c) + length a.values) a.size

-- It has fewer cells than so many, and no more bytes of values than so many.
abbrev pub room_in : (rows bytes : ℕ) → Column → Bool
room_in rows bytes a = nat_lt (length a.valid) rows && nat_le (length a.values) bytes

-- More bytes than so many represent a cell.
abbrev pub is_long : (content : ℕ) → Cell → Column → Bool
is_long content c a = nat_lt content (length (cell_bytes a.layout c))

-- why a column does not take a cell
abbrev pub refusal_of : Cell → Column → Option ColumnRefusal
refusal_of c a = if is_of a.kind c then (if fits c a then None else Some Full) else Some NotOfKind

-- the bytes of a column's values
abbrev pub AreBytes : Layout → (values : List ℕ) → (truths : List Bool) → List ℕ → Type 0
AreBytes Bits values truths bytes = Spells truths bytes
AreBytes (Fixed n) values truths bytes = bytes ≡ values
AreBytes Variable values truths bytes = bytes ≡ values

abbrev pub AreBytesOf : Column → List ℕ → Type 0
AreBytesOf a bytes = AreBytes a.layout a.values a.truths bytes

-- what a call answers, where this is the reason why not
abbrev pub IsAnswer : Option ColumnRefusal → Result (Unit {0}) ColumnRefusal → Type 0
IsAnswer why (Ok u) = why ≡ None
IsAnswer why (Err e) = why ≡ Some e

-- The column has these cells, in the arrays that Arrow gives them.
abbrev pub HasCells : List Cell → Column → Type 0
HasCells cells a = a ≡ column_of (site_of a) a.layout a.rows a.size cells
