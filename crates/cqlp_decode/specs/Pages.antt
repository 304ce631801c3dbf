-- The cells that are still to be read of a page (section 4.2.5.2 of native_protocol_v4.spec).
use Rattle.std.specs.Prelude.{◌≡◌, ℕ, ◌+◌, ◌-◌, ◌<◌, ◌≤◌, ◌^◌, ◌++◌, Bool, true, false, List, [], ◌∷◌, length, drop, Option, Some, None}
use Rattle.std.specs.Prelude.{if◌then◌else◌, ⊤, slice_get}
use Rattle.cqlp_note.specs.Field.{FieldValue}
use Rattle.cqlp_kind.specs.declared.kind.Kind.{Kind}
use Rattle.cqlp_kind.specs.declared.node.Node.{Node}
use Rattle.cqlp_kind.specs.Types.{Types, NoMore, Type_and, types_of, other_types}
use Rattle.cqlp_cell.specs.declared.progress.NextInCell.{NextInCell}
use Rattle.cqlp_cell.specs.declared.progress.NextInCell.TheVariants as next
use Rattle.cqlp_kind.specs.CellStep.{CellSymbol}
use Rattle.cqlp_type.specs.Forests.{Forest}
use Rattle.cqlp_cell.specs.Progress as cell
use Rattle.cqlp_cell.specs.Progress.{place}
use Rattle.cqlp_grammar.specs.declared.grammar.Role.{Role}
use Rattle.cqlp_grammar.specs.Productions.{Symbol, Cell_due, In_cell, row_from, rows_from, raw_types, following}
use Rattle.cqlp_decode.specs.declared.page.Columns.{Columns}
use Rattle.cqlp_decode.specs.declared.page.Columns.TheVariants as columns
use Rattle.cqlp_decode.specs.declared.page.CellCursor.{CellCursor}
use Rattle.cqlp_decode.specs.Reading.{Given, Nothing, Waiting, InUse, Used, serves, serves_after, page_types, types_for}
use Rattle.cqlp_decode.specs.declared.given.GivenUse.{GivenUse}
use Rattle.cqlp_decode.specs.declared.given.GivenUse.TheVariants as uses
use Rattle.cqlp_type.specs.Table.{Table}

abbrev pub column_types : List Node → Columns → Types
column_types nodes columns.Typed = types_of nodes
column_types nodes columns.Given = types_of nodes
column_types nodes (columns.Raw n) = raw_types n

-- the types of a column and of those after it
abbrev pub types_from : List Node → Columns → (column index : ℕ) → Types
types_from nodes columns.Typed column index = types_of (drop index nodes)
types_from nodes columns.Given column index = types_of (drop index nodes)
types_from nodes (columns.Raw n) column index = raw_types (n - column)

abbrev pub types_left : List Node → CellCursor → Types
types_left nodes p = types_from nodes p.columns p.column p.index

-- the node of a column's type, if it is known
abbrev pub node_by : Columns → (index : ℕ) → Option ℕ
node_by columns.Typed index = Some index
node_by columns.Given index = Some index
node_by (columns.Raw n) index = None

-- the rows after this one
abbrev pub rows_after : List Node → CellCursor → List Symbol
rows_after nodes p = rows_from (p.row + 1) (column_types nodes p.columns) p.left

-- the cells after this one
abbrev pub cells_after : List Node → CellCursor → List Symbol
cells_after nodes p = row_from p.row (p.column + 1) (other_types 1 (types_left nodes p)) ++ rows_after nodes p

-- this cell and those after it, none of which has begun
abbrev pub cells_from : List Node → CellCursor → List Symbol
cells_from nodes p = row_from p.row p.column (types_left nodes p) ++ rows_after nodes p

-- the cell under way, of which nothing was handed out, or something
abbrev pub cell_symbol : NextInCell → (row column : ℕ) → Kind → Types → List CellSymbol → Symbol
cell_symbol (next.Cell i) row column k inner symbols = Cell_due row column k inner
cell_symbol n row column k inner symbols = In_cell row column symbols

abbrev pub first_cell : NextInCell → (row column : ℕ) → Types → List CellSymbol → List Symbol
first_cell n row column NoMore symbols = []
first_cell n row column (Type_and k inner others) symbols = cell_symbol n row column k inner symbols ∷ []

-- what is left of the cell under way, and those after it
abbrev pub page_symbols : List Node → cell.CellState → CellCursor → List Symbol
page_symbols nodes d p =
    first_cell d.next p.row p.column (types_left nodes p) (place nodes d).symbols ++ cells_after nodes p

-- ---- where a cell is

-- a column's type is in the table as one of the types side by side
abbrev pub IsColumn : List Node → (depth : ℕ) → Columns → (column index : ℕ) → Type 0
IsColumn nodes depth columns.Typed column index =
    (index < length nodes) × (column ≤ index) × Forest nodes index depth × Forest nodes 0 depth
IsColumn nodes depth columns.Given column index =
    (index < length nodes) × (column ≤ index) × Forest nodes index depth × Forest nodes 0 depth
IsColumn nodes depth (columns.Raw n) column index = column < n

abbrev pub IsPage : List Node → (depth : ℕ) → CellCursor → Type 0
IsPage nodes depth p = IsColumn nodes depth p.columns p.column p.index × (p.row + p.left < 2 ^ 32)

-- the kind of a column's type
abbrev pub IsKind : List Node → CellCursor → Kind → Type 0
IsKind nodes p k = (inner others : Types) × (types_left nodes p ≡ Type_and k inner others)

-- how many nodes a column's type takes, where it is in the table
abbrev pub IsSpan : List Node → Columns → (index span : ℕ) → Type 0
IsSpan nodes (columns.Raw n) index span = ⊤
IsSpan nodes c index span = (x : Node) → slice_get nodes index ≡ Some x → span ≡ x.span

abbrev pub IsSomePage : List Node → CellCursor → Type 0
IsSomePage nodes p = (depth : ℕ) × IsPage nodes depth p

-- ---- from cell to cell

-- where the type of the next column is, if there is one
abbrev pub NextColumn : List Node → (depth : ℕ) → CellCursor → Option ℕ → Type 0
NextColumn nodes depth p None = other_types 1 (types_left nodes p) ≡ NoMore
NextColumn nodes depth p (Some i) =
    (other_types 1 (types_left nodes p) ≡ types_from nodes p.columns (p.column + 1) i)
    × IsColumn nodes depth p.columns (p.column + 1) i

-- the same at each depth of nesting that the types keep to
abbrev pub FindsColumn : List Node → CellCursor → Option ℕ → Type 0
FindsColumn nodes p o = (depth : ℕ) → IsPage nodes depth p → NextColumn nodes depth p o

-- the next cell, if there is one
abbrev pub Turns : List Node → (depth : ℕ) → CellCursor → Option CellCursor → Type 0
Turns nodes depth p None = cells_after nodes p ≡ []
Turns nodes depth p (Some q) =
    (cells_after nodes p ≡ cells_from nodes q) × IsPage nodes depth q × (q.columns ≡ p.columns)

-- the same, where the cursor itself goes on, if there is a next cell
abbrev pub TurnsTo : List Node → (depth : ℕ) → CellCursor → (turned : Bool) → CellCursor → Type 0
TurnsTo nodes depth p false q = cells_after nodes p ≡ []
TurnsTo nodes depth p true q = Turns nodes depth p (Some q)

-- the first cell of this many rows, if there is one
abbrev pub Begins : List Node → (depth : ℕ) → Columns → (rows : ℕ) → Option CellCursor → Type 0
Begins nodes depth c rows None = rows_from 0 (column_types nodes c) rows ≡ []
Begins nodes depth c rows (Some p) =
    (rows_from 0 (column_types nodes c) rows ≡ cells_from nodes p) × IsPage nodes depth p × (p.columns ≡ c)

-- ---- the table of a page

-- what the table that the caller gave is for
abbrev pub given_of : GivenUse → Option Table → Given
given_of u None = Nothing
given_of uses.Waiting (Some t) = Waiting (types_of t.nodes)
given_of uses.InUse (Some t) = InUse (types_of t.nodes)
given_of uses.Used (Some t) = Used (types_of t.nodes)

-- what it is for where a page begins, which it types or not
abbrev pub use_after : (served : Bool) → GivenUse → GivenUse
use_after served u = if served then uses.InUse else u

-- what it is for after the end of a frame
abbrev pub ended_use : GivenUse → GivenUse
ended_use uses.Waiting = uses.Waiting
ended_use uses.InUse = uses.Used
ended_use uses.Used = uses.Used

-- the nodes of the table that types a page's columns: those of the metadata, or those that were given
abbrev pub page_nodes : Columns → List Node → Option Table → List Node
page_nodes columns.Given nodes (Some t) = t.nodes
page_nodes c nodes given = nodes

-- whole types side by side, none nested deeper than this
abbrev pub HoldsForest : (depth : ℕ) → Option Table → Type 0
HoldsForest depth None = ⊤
HoldsForest depth (Some t) = Forest t.nodes 0 depth

-- what follows from the value of a field
abbrev pub symbols_after : (types : Bool) → List Node → Given → Role → FieldValue → List Symbol
symbols_after types nodes held r v = following (types_for types r nodes held) r v

-- The page after a field, if it has a cell.
module _ (nodes : List Node) (given : Option Table) (u : GivenUse) where
  abbrev pub Follows : (depth : ℕ) → (types : Bool) → Role → FieldValue → Option CellCursor → Type 0
  Follows depth types r v None = symbols_after types nodes (given_of u given) r v ≡ following NoMore r v
  Follows depth types r v (Some p) =
      (symbols_after types nodes (given_of u given) r v ≡ cells_from (page_nodes p.columns nodes given) p)
      × IsPage (page_nodes p.columns nodes given) depth p
      × (p.columns ≡ columns.Given → serves_after r (given_of u given) ≡ true)

  abbrev pub FindsPage : (types : Bool) → Role → FieldValue → Option CellCursor → Type 0
  FindsPage types r v o =
      (depth : ℕ) → Forest nodes 0 depth → HoldsForest depth given → Follows depth types r v o

-- The columns of a page whose metadata has these flags and this many columns, by whether what is given types it.
abbrev pub AreColumns : (types : Bool) → (flags columns : ℕ) → (served : Bool) → Columns → Type 0
AreColumns types flags n served c =
    (nodes : List Node) (given : Option Table) (u : GivenUse) → served ≡ serves flags n (given_of u given)
    → (page_types types flags n nodes (given_of u given) ≡ column_types (page_nodes c nodes given) c)
    × (c ≡ columns.Given → served ≡ true)
