-- Pages that have no cells yet, and cells of one event (sections 4.2.5.2 and 6 of native_protocol_v4.spec).
use Rattle.std.specs.Prelude.{◌≡◌, ⊤, ℕ, ◌+◌, ◌<◌, ◌^◌, true, List, [], length, get_or, Result, Ok, Err, Vec}
use Rattle.std.specs.declared.alloc.Global.{Global}
use Rattle.cqlp_note.specs.declared.header.TheConstants.Header.{LONGEST_BODY}
use Rattle.cqlp_kind.specs.declared.kind.Kind.{Kind}
use Rattle.cqlp_kind.specs.declared.kind.Kind.TheVariants.{Raw}
use Rattle.cqlp_kind.specs.Scalars.{ScalarValue, content_of}
use Rattle.cqlp_kind.specs.CellStep.{CellEvent, Leaf, Null, Empty}
use Rattle.cqlp_grammar.specs.Events.{Event, Cell_at}
use Rattle.cqlp_message.specs.declared.frame.Frame.{Frame}
use Rattle.cqlp_message.specs.declared.response.Spec.{Spec}
use Rattle.cqlp_build_cells.specs.declared.builder.CellLimits.{CellLimits}
use Rattle.cqlp_compose.specs.declared.bare.BarePage.{BarePage}
use Rattle.cqlp_compose.specs.declared.error.BeginError.{BeginError}
use Rattle.cqlp_compose.specs.declared.error.KindsError.{KindsError}
use Rattle.cqlp_compose.specs.declared.error.KindsError.TheVariants as kinds_error
use Rattle.cqlp_compose.specs.declared.place.PageProgress.{PageProgress}
use Rattle.cqlp_compose.specs.Cells.{begun, is_next, next_column}
use Rattle.cqlp_compose.specs.Places.{described_type, type_at}
use Rattle.cqlp_compose.specs.Single.{IsNoScalarType, IsPlain, IsScalarCell, null_bytes, with_length}

-- the frame of a page that has no cells yet
abbrev pub bare_frame : Result BarePage BeginError → Result Frame BeginError
bare_frame (Ok p) = Ok p.frame
bare_frame (Err why) = Err why

-- after as many cells, where no bytes are counted
abbrev pub after : (cells : ℕ) → PageProgress
after cells = record { cells = cells; free = 0 }

-- no cell has more events or bytes than a body
abbrev pub longest_cell : CellLimits
longest_cell = record { events = LONGEST_BODY; bytes = LONGEST_BODY }

-- The cell after as many others is of this row and this column, and its type is of this kind, without inner types.
abbrev pub IsKindAt : Frame → (cells row column : ℕ) → Kind → Type 0
IsKindAt f cells row column k =
    (is_next (begun f (after cells) longest_cell) (Cell_at row column (Null 0)) ≡ true) × (cells + 1 < 2 ^ 64)
    × IsPlain (described_type f (next_column (begun f (after cells) longest_cell))) k

-- It is another cell, or none.
abbrev pub IsNoKindAt : Frame → (cells row column : ℕ) → Type 0
IsNoKindAt f cells row column = (k : Kind) → IsKindAt f cells row column k → ⊥

-- The types of these columns are of these kinds, without inner types; those of no column are raw.
abbrev pub AreKindsAmong : List Spec → List Kind → Type 0
AreKindsAmong specs kinds = (column : ℕ) → IsPlain (type_at specs column) (get_or kinds column Raw)

-- The same of the columns of a page.
abbrev pub AreKindsOf : Frame → List Kind → Type 0
AreKindsOf f kinds = (column : ℕ) → IsPlain (described_type f column) (get_or kinds column Raw)

-- These are the kinds of columns; or values of a column have items, or memory was refused.
abbrev pub AnswersKindsOf : List Spec → Result (Vec Kind Global) KindsError → Type 0
AnswersKindsOf specs (Ok kinds) = AreKindsAmong specs kinds.items
AnswersKindsOf specs (Err kinds_error.Nested) = (column : ℕ) × IsNoScalarType (type_at specs column)
AnswersKindsOf specs (Err kinds_error.NoMemory) = ⊤

-- The same of the columns of a page.
abbrev pub AnswersKinds : Frame → Result (Vec Kind Global) KindsError → Type 0
AnswersKinds f (Ok kinds) = AreKindsOf f kinds.items
AnswersKinds f (Err kinds_error.Nested) = (column : ℕ) × IsNoScalarType (described_type f column)
AnswersKinds f (Err kinds_error.NoMemory) = ⊤

-- The cell of this kind that holds this scalar has n bytes.
abbrev pub IsSizeOf : Kind → ScalarValue → (n : ℕ) → Type 0
IsSizeOf k v n = (bytes : List ℕ) × IsScalarCell LONGEST_BODY k v bytes × (n ≡ length bytes)

-- the bytes of the cell with this one event, where it is a leaf, a null or an empty value
abbrev pub bytes_of_cell : CellEvent → List ℕ
bytes_of_cell (Leaf level v) = with_length (content_of v)
bytes_of_cell (Null level) = null_bytes
bytes_of_cell (Empty level) = with_length []
bytes_of_cell e = []

abbrev pub event_bytes : Event → List ℕ
event_bytes (Cell_at row column e) = bytes_of_cell e
event_bytes e = []
