-- Batches of rows as columns.
use Rattle.std.specs.Prelude.{◌≡◌, ℕ, zero, suc, ◌+◌, ◌%◌, ◌==◌, Bool, ◌&&◌, not, nat_lt, true, List, [], ◌∷◌, drop, length, map, ◌⊎◌}
use Rattle.std.specs.Prelude.{Option, Some, None, is_some, Result, Ok, Err, if◌then◌else◌}
use Rattle.std.specs.Option.{unwrap_or}
use Rattle.std.specs.List.{AllByRecursion, list_all}
use Rattle.cqlp_kind.specs.declared.kind.Kind.{Kind}
use Rattle.cqlp_grammar.specs.Events.{Event}
use Rattle.cqlp_columns.specs.declared.layout.Layout.TheVariants.{Variable}
use Rattle.cqlp_columns.specs.declared.column.MakeError.{MakeError}
use Rattle.cqlp_columns.specs.declared.column.MakeError.TheVariants.{NoMemory, TooManyColumns, Unsupported}
use Rattle.cqlp_columns.specs.declared.column.ColumnRefusal.{ColumnRefusal}
use Rattle.cqlp_columns.specs.declared.column.ColumnRefusal.TheVariants as no
use Rattle.cqlp_columns.specs.declared.columns.BatchLimits.{BatchLimits}
use Rattle.cqlp_columns.specs.declared.columns.TakeError.{TakeError}
use Rattle.cqlp_columns.specs.declared.columns.TakeError.TheVariants.{Full, Part as APart, OutOfOrder, NotOfKind, TooLong}
use Rattle.cqlp_columns.specs.Arrays.{Column, Site, column_of, is_long, refusal_of, room_in, site, site_of, with_cell}
use Rattle.cqlp_columns.specs.Cells.{Cell, is_of}
use Rattle.cqlp_columns.specs.Findings.{Finding, Nothing, Part, Whole, cell_count, cells_among}
use Rattle.cqlp_columns.specs.Layouts.{layout_of}

-- how large it may be, its columns, and the column of the next cell
pub record Batch : Type 0 where
  pub limits : BatchLimits
  pub columns : List Column
  pub next : ℕ

abbrev pub batch : BatchLimits → List Column → (next : ℕ) → Batch
batch limits columns next = record { limits = limits; columns = columns; next = next }

-- ---- what it has of a page

-- a column of this kind, which lies there, with these cells
abbrev pub filled : BatchLimits → Site → List Cell → Column
filled l s cells = column_of s (unwrap_or (layout_of s.kind) Variable) l.rows (l.bytes + l.content) cells

-- columns of these kinds, which lie there, from the one of a number on, each with its cells among events
abbrev pub columns_from : BatchLimits → (at : ℕ) → List Site → List Event → List Column
columns_from l at [] es = []
columns_from l at (s ∷ ss) es = filled l s (cells_among at es) ∷ columns_from l (at + 1) ss es

-- Each column has just its cells among these events, in the arrays that Arrow gives them; and cells come in the order of the columns, so that
-- the number of cells so far gives the column of the next.
abbrev pub batch_of : BatchLimits → List Site → List Event → Batch
batch_of l sites es = batch l (columns_from l 0 sites es) (cell_count es % length sites)

abbrev pub HasTaken : BatchLimits → List Site → List Event → Batch → Type 0
HasTaken l sites es b = b ≡ batch_of l sites es

-- ---- one without rows

abbrev pub has_layout : Kind → Bool
has_layout k = is_some (layout_of k)

-- why no column is made of a kind
abbrev pub refusal_of_kind : Kind → Option MakeError
refusal_of_kind k = if has_layout k then None else Some Unsupported

-- why no batch is made of columns of these kinds
abbrev pub refusal_of_kinds : BatchLimits → List Kind → Option MakeError
refusal_of_kinds l kinds = if nat_lt l.columns (length kinds) then Some TooManyColumns else (if list_all has_layout kinds then None else Some Unsupported)

-- what a call answers, where this is the reason why not: without one, no more than that memory is refused
abbrev pub IsMade : {B : Type 0} → Option MakeError → Result B MakeError → Type 0
IsMade why (Ok b) = why ≡ None
IsMade why (Err e) = e ≡ unwrap_or why NoMemory

-- A column of this kind without cells, wherever it lies, with room for this many rows and bytes of values.
abbrev pub IsEmptyOf : Kind → (rows size : ℕ) → Column → Type 0
IsEmptyOf k rows size c = (layout_of k ≡ Some c.layout) × (c ≡ column_of (site k c.places) c.layout rows size [])

abbrev pub empty_column : BatchLimits → Site → Column
empty_column l s = filled l s []

abbrev pub empty_columns : BatchLimits → List Site → List Column
empty_columns l sites = map (empty_column l) sites

abbrev pub kind_in : Column → Kind
kind_in a = a.kind

-- the kinds of columns, and where they lie
abbrev pub kinds_in : List Column → List Kind
kinds_in cols = map kind_in cols

abbrev pub sites_in : List Column → List Site
sites_in cols = map site_of cols

-- It has columns of these kinds, wherever they lie, and took no event.
abbrev pub IsNew : BatchLimits → List Kind → Batch → Type 0
IsNew l kinds b = (kinds_in b.columns ≡ kinds) × HasTaken l (sites_in b.columns) [] b

-- the arrays lie where they lay
abbrev pub cleared : Column → Column
cleared a = column_of (site_of a) a.layout a.rows a.size []

-- as many as the last column has cells
abbrev pub rows_in : List Column → ℕ
rows_in [] = 0
rows_in (a ∷ []) = length a.valid
rows_in (a ∷ b ∷ cols) = rows_in (b ∷ cols)

-- ---- room

-- There is room for one more row.
abbrev pub has_room : BatchLimits → List Column → Bool
has_room l cols = list_all (room_in l.rows l.bytes) cols

-- A row begins next, for which there is no room.
abbrev pub is_full : Batch → Bool
is_full b = (b.next == 0) && not (has_room b.limits b.columns)

-- A column has the room that the limits give it.
abbrev pub IsSized : BatchLimits → Column → Type 0
IsSized l a = (a.rows ≡ l.rows) × (a.size ≡ l.bytes + l.content)

-- In a row that is under way each column has room for its cell.
pub record IsReady (l : BatchLimits) (cols : List Column) (next : ℕ) : Type 0 where
  pub sized : AllByRecursion (IsSized l) cols
  pub room : (next ≡ 0) ⊎ (has_room l (drop next cols) ≡ true)

-- ---- one more event

-- the column of the cell after one of this column
abbrev pub next_after : (column columns : ℕ) → ℕ
next_after k n = (k + 1) % n

-- why a column with room does not take a cell
abbrev pub fault_in : BatchLimits → Cell → Column → Option TakeError
fault_in l c a = if is_of a.kind c then (if is_long l.content c a then Some TooLong else None) else Some NotOfKind

-- the same of the column of a number, if there is one
abbrev pub fault_among : BatchLimits → (column : ℕ) → Cell → List Column → Option TakeError
fault_among l k c [] = Some OutOfOrder
fault_among l zero c (a ∷ cols) = fault_in l c a
fault_among l (suc k) c (a ∷ cols) = fault_among l k c cols

-- why a cell of a column is not taken: it is not the next, or a row begins without room, or its column does not take it
abbrev pub fault_at : (column : ℕ) → Cell → Batch → Option TakeError
fault_at k c b =
    if k == b.next then (if (k == 0) && not (has_room b.limits b.columns) then Some Full else fault_among b.limits k c b.columns)
    else Some OutOfOrder

abbrev pub refusal_to : Finding → Batch → Option TakeError
refusal_to Nothing b = None
refusal_to Part b = Some APart
refusal_to (Whole k c) b = fault_at k c b

-- what a call answers, where this is the reason why not
abbrev pub IsAnswerOf : Option TakeError → Result (Unit {0}) TakeError → Type 0
IsAnswerOf why (Ok u) = why ≡ None
IsAnswerOf why (Err e) = why ≡ Some e

-- why the column of a number does not take a cell by itself
abbrev pub refusal_among : (column : ℕ) → Cell → List Column → Option ColumnRefusal
refusal_among k c [] = Some no.Full
refusal_among zero c (a ∷ cols) = refusal_of c a
refusal_among (suc k) c (a ∷ cols) = refusal_among k c cols

-- with a cell more in the column of a number
abbrev pub with_cell_in : (column : ℕ) → Cell → List Column → List Column
with_cell_in k c [] = []
with_cell_in zero c (a ∷ cols) = with_cell c a ∷ cols
with_cell_in (suc k) c (a ∷ cols) = a ∷ with_cell_in k c cols

abbrev pub with_cell_at : (column : ℕ) → Cell → Batch → Batch
with_cell_at k c b = batch b.limits (with_cell_in k c b.columns) (next_after k (length b.columns))
