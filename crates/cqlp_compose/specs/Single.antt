-- Cells that have one event (section 6 of native_protocol_v4.spec).
use Rattle.std.specs.Prelude.{◌≡◌, ◌⊎◌, ℕ, ◌+◌, ◌-◌, ◌<◌, ◌≤◌, ◌^◌, ◌++◌, min, true, false, List, [], ◌∷◌, drop, length, Option, Some, None, Result, Ok, Err}
use Rattle.std.specs.Int.{w32, to_be_bytes}
use Rattle.cqlp_note.specs.declared.header.TheConstants.Header.{LONGEST_BODY}
use Rattle.cqlp_kind.specs.declared.kind.Kind.{Kind}
use Rattle.cqlp_kind.specs.Scalars.{ScalarValue, IsInRange, content_of, kind_of, scalar_fits}
use Rattle.cqlp_kind.specs.Types.{NoMore, Type_and, has_no_items}
use Rattle.cqlp_kind.specs.CellStep.{CellEvent, Leaf, Null, Empty, Enter, Leave, Part}
use Rattle.cqlp_type.specs.declared.tree.TypeTree.{TypeTree}
use Rattle.cqlp_grammar.specs.Events.{Event, Cell_at}
use Rattle.cqlp_compose.specs.Contents.{content_in}
use Rattle.cqlp_value.specs.Owned.{cell_type}
use Rattle.cqlp_message.specs.declared.frame.Frame.{Frame}
use Rattle.cqlp_build_cells.specs.Building.{is_formed}
use Rattle.cqlp_build_cells.specs.declared.builder.CellLimits.{CellLimits}
use Rattle.cqlp_compose.specs.declared.place.PageProgress.{PageProgress}
use Rattle.cqlp_compose.specs.declared.single.WholeCell.{WholeCell}
use Rattle.cqlp_compose.specs.declared.single.WholeCell.TheVariants as cell
use Rattle.cqlp_compose.specs.declared.error.PageCellError.TheVariants as cell_error
use Rattle.cqlp_compose.specs.declared.error.PutError.TheVariants as error
use Rattle.cqlp_compose.specs.Cells.{begun, is_next, next_column, room}
use Rattle.cqlp_compose.specs.Places.{described_type}
use Rattle.cqlp_compose.specs.declared.put.PutCells.{PutCells}
use Rattle.cqlp_compose.specs.Put.{Answer, PutterState, Puts, fresh, putter}

-- the bytes of a content with its length
abbrev pub with_length : List ℕ → List ℕ
with_length c = to_be_bytes w32 (length c) ++ c

abbrev pub null_bytes : List ℕ
null_bytes = to_be_bytes w32 (2 ^ 32 - 1)

abbrev pub cell_bytes : WholeCell → List ℕ
cell_bytes cell.Null = null_bytes
cell_bytes (cell.Of c) = with_length (content_in c)

-- The type is of this kind, and has no inner types.
abbrev pub IsPlain : Option TypeTree → Kind → Type 0
IsPlain t k = (cell_type t ≡ Type_and k NoMore NoMore) × (is_formed t ≡ true)

-- The same, of a kind whose values have no items: no tuple and no user-defined type without fields.
abbrev pub IsScalarType : Option TypeTree → Kind → Type 0
IsScalarType t k = IsPlain t k × (has_no_items k ≡ true)

abbrev pub IsNoScalarType : Option TypeTree → Type 0
IsNoScalarType t = (k : Kind) → IsScalarType t k → ⊥

-- ---- why a scalar is refused

-- The scalar is of another kind.
abbrev pub IsOfOtherKind : Kind → ScalarValue → Type 0
IsOfOtherKind k v = kind_of v ≡ k → ⊥

-- Its content is none of its kind, as bytes that are no ASCII in an ascii.
abbrev pub IsUnfit : ScalarValue → Type 0
IsUnfit v = scalar_fits v ≡ false

-- Its content has more bytes than this limit.
abbrev pub PassesLimit : (most : ℕ) → ScalarValue → Type 0
PassesLimit most v = most < length (content_of v)

-- no cell of this kind holds it within this limit
abbrev pub HasNoCell : (most : ℕ) → Kind → ScalarValue → Type 0
HasNoCell most k v = (IsOfOtherKind k v ⊎ IsUnfit v) ⊎ PassesLimit most v

-- ---- cells of one event

-- The bytes are those of a cell of this kind that holds this scalar, whose content has at most so many bytes.
abbrev pub IsScalarCell : (most : ℕ) → Kind → ScalarValue → (bytes : List ℕ) → Type 0
IsScalarCell most k v bytes =
    (kind_of v ≡ k) × (scalar_fits v ≡ true) × IsInRange v × (length (content_of v) ≤ most) × (most < 2 ^ 32) × (bytes ≡ with_length (content_of v))

-- The bytes are those of the cell of this kind with this one event.
abbrev pub IsCellOfKind : (most : ℕ) → Kind → CellEvent → (bytes : List ℕ) → Type 0
IsCellOfKind most k (Leaf level v) bytes = (level ≡ 0) × IsScalarCell most k v bytes
IsCellOfKind most k (Null level) bytes = (level ≡ 0) × (bytes ≡ null_bytes)
IsCellOfKind most k (Empty level) bytes = (level ≡ 0) × (bytes ≡ with_length [])
IsCellOfKind most k e bytes = ⊥

-- The bytes are those of the cell of this type with this one event.
abbrev pub IsWholeCell : (most : ℕ) → Option TypeTree → Event → (bytes : List ℕ) → Type 0
IsWholeCell most t (Cell_at row column e) bytes = (k : Kind) × IsPlain t k × IsCellOfKind most k e bytes
IsWholeCell most t e bytes = ⊥

abbrev pub IsCellIn : (most : ℕ) → Kind → Event → (bytes : List ℕ) → Type 0
IsCellIn most k (Cell_at row column e) bytes = IsCellOfKind most k e bytes
IsCellIn most k e bytes = ⊥

-- The event is not all of a cell of this type within this limit, or values of the type have items.
abbrev pub IsNoWholeCell : (most : ℕ) → Option TypeTree → Event → Type 0
IsNoWholeCell most t e = (k : Kind) (bytes : List ℕ) → IsScalarType t k → IsCellIn most k e bytes → ⊥

-- The event is that of the next cell of a page, which has these bytes; and fewer cells have come than can be counted.
abbrev pub IsNextCell : Frame → PageProgress → CellLimits → Event → (bytes : List ℕ) → Type 0
IsNextCell f p limits e bytes =
    (is_next (begun f p limits) e ≡ true) × (0 < limits.events) × (p.cells + 1 < 2 ^ 64)
    × IsWholeCell limits.bytes (described_type f (next_column (begun f p limits))) e bytes

-- the place after a cell of n bytes
abbrev pub after_cell : PageProgress → (n : ℕ) → PageProgress
after_cell p n = record { cells = p.cells + 1; free = p.free - n }

-- The next cell, which has these bytes, is put into a room of n, or there is none for it, or the cells would be longer than was said.
abbrev pub PutsCell : PutterState → (cell : List ℕ) → (n : ℕ) → Answer → (bytes : List ℕ) → PutterState → Type 0
PutsCell old cell n (Ok (Some len)) bytes new =
    (bytes ≡ cell) × (len ≡ length cell) × (length cell ≤ n) × (length cell ≤ room old.cells) × (new ≡ fresh old (after_cell old.place (length cell)))
PutsCell old cell n (Err (error.NoRoom len)) bytes new =
    (bytes ≡ []) × (len ≡ length cell) × (n < length cell) × (length cell ≤ room old.cells) × (new ≡ old)
PutsCell old cell n (Err (error.Cell cell_error.PastLength)) bytes new = (bytes ≡ []) × (room old.cells < length cell) × (new ≡ old)
PutsCell old cell n r bytes new = ⊥

-- ---- cells that are known to be next

-- No event of the next cell came, it is of this row and this column, and its type is of this kind, without inner types.
abbrev pub IsNextKind : PutCells → (row column : ℕ) → Kind → Type 0
IsNextKind c row column k =
    (c.cells ≡ None) × (is_next (begun c.frame.now c.place c.limits) (Cell_at row column (Null 0)) ≡ true) × (0 < c.limits.events)
    × (c.place.cells + 1 < 2 ^ 64) × IsPlain (described_type c.frame.now (next_column (begun c.frame.now c.place c.limits))) k

-- The same, of a kind whose values have no items.
abbrev pub IsNextScalar : PutCells → (row column : ℕ) → Kind → Type 0
IsNextScalar c row column k = IsNextKind c row column k × (has_no_items k ≡ true)

-- The next cell is not of this row and this column, or of no such kind; or events of it came, or may not come.
abbrev pub IsNoNextScalar : PutCells → (row column : ℕ) → Type 0
IsNoNextScalar c row column = (k : Kind) → IsNextScalar c row column k → ⊥

abbrev pub IsNext : PutCells → Kind → Type 0
IsNext c k = (row column : ℕ) × IsNextKind c row column k

abbrev pub IsNextPlain : PutCells → Type 0
IsNextPlain c = (k : Kind) × IsNext c k

-- A cell of n bytes is longer than what the cells of the page can still have.
abbrev pub PassesPage : PutCells → (n : ℕ) → Type 0
PassesPage c n = min c.place.free LONGEST_BODY < n

-- It is longer than this room.
abbrev pub PassesRoom : (room : List ℕ) → (n : ℕ) → Type 0
PassesRoom room n = length room < n

abbrev pub HasNoSpace : PutCells → (room : List ℕ) → (n : ℕ) → Type 0
HasNoSpace c room n = PassesPage c n ⊎ PassesRoom room n

-- Why a scalar is not put as the next cell, of this kind, into this room.
abbrev pub IsRefused : PutCells → Kind → ScalarValue → (room : List ℕ) → Type 0
IsRefused c k v room = HasNoCell c.limits.bytes k v ⊎ HasNoSpace c room (length (with_length (content_of v)))

-- The next cell, whose one event is a leaf with this scalar, is put; or it is refused for one of these reasons, and nothing changes.
abbrev pub PutsScalar : PutCells → Kind → ScalarValue → (before : List ℕ) → Option ℕ → PutCells → (after : List ℕ) → Type 0
PutsScalar old k v before (Some len) new after =
    (bytes : List ℕ)
    × ((row column : ℕ) → IsNextKind old row column k → Puts (putter old) (Cell_at row column (Leaf 0 v)) (length before) (Ok (Some len)) bytes (putter new))
    × (after ≡ bytes ++ drop (length bytes) before)
PutsScalar old k v before None new after = (putter new ≡ putter old) × (after ≡ before) × IsRefused old k v before

-- The next cell, which is null, is put; or there is no space for it, and nothing changes.
abbrev pub PutsNull : PutCells → (before : List ℕ) → Option ℕ → PutCells → (after : List ℕ) → Type 0
PutsNull old before (Some len) new after =
    (bytes : List ℕ)
    × ((row column : ℕ) (k : Kind) → IsNextKind old row column k → Puts (putter old) (Cell_at row column (Null 0)) (length before) (Ok (Some len)) bytes (putter new))
    × (after ≡ bytes ++ drop (length bytes) before)
PutsNull old before None new after = (putter new ≡ putter old) × (after ≡ before) × HasNoSpace old before (length null_bytes)
