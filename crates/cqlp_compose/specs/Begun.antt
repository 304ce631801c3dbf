-- Pages that are begun with the events of their heads (section 4.2.5.2 of native_protocol_v4.spec).
use Rattle.std.specs.Prelude.{◌≡◌, ◌==◌, ◌⊎◌, ℕ, Bool, true, false, min, Some, None, Result, Ok, Err}
use Rattle.cqlp_note.specs.declared.field.Field.TheVariants as field
use Rattle.cqlp_note.specs.Field.{Count}
use Rattle.cqlp_grammar.specs.Events.{Event, Holds}
use Rattle.cqlp_message.specs.declared.frame.Frame.{Frame as OwnedFrame}
use Rattle.cqlp_message.specs.FrameValues.{FrameValue, Message, Rows}
use Rattle.cqlp_message.specs.Frames.{FrameIsInRange}
use Rattle.cqlp_message.specs.Owned.{frame_of}
use Rattle.cqlp_message.specs.Pages.{cells_wanted, page_head, page_unfit_of}
use Rattle.cqlp_build.specs.declared.error.BuildError.TheVariants as build_error
use Rattle.cqlp_build.specs.Closing.{Ends}
use Rattle.cqlp_compose.specs.Composing.{ComposerState, refusal_of, with_next}
use Rattle.cqlp_compose.specs.declared.place.PageProgress.{PageProgress}
use Rattle.cqlp_compose.specs.Places.{first_place}
use Rattle.cqlp_compose.specs.declared.error.BeginError.{BeginError}
use Rattle.cqlp_compose.specs.declared.error.BeginError.TheVariants as error
use Rattle.cqlp_compose.specs.declared.error.Unended.{Unended}
use Rattle.cqlp_compose.specs.declared.error.Unended.TheVariants as unended
use Rattle.cqlp_compose.specs.declared.page.BegunPage.{BegunPage}

-- ---- the frame without cells

abbrev pub is_page : Message → Bool
is_page (Rows p) = true
is_page m = false

-- a page of n rows with the cells that it has
abbrev pub with_rows : (n : ℕ) → Message → Message
with_rows n (Rows p) = Rows (record { meta = p.meta; rows = n; cells = p.cells })
with_rows n m = m

abbrev pub frame_with_rows : (n : ℕ) → FrameValue → FrameValue
frame_with_rows n f = record {
  flags = f.flags;
  stream = f.stream;
  tracing = f.tracing;
  warnings = f.warnings;
  payload = f.payload;
  message = with_rows n f.message;
}

-- A frame with n rows, where it is a page.
abbrev pub SetsRows : FrameValue → (n : ℕ) → Result OwnedFrame BeginError → Type 0
SetsRows f n (Ok g) = (is_page f.message ≡ true) × (frame_of g ≡ frame_with_rows n f)
SetsRows f n (Err error.NoPage) = is_page f.message ≡ false
SetsRows f n (Err e) = ⊥

-- the event of a page's count of rows
abbrev pub rows_event : (n : ℕ) → Event
rows_event n = Holds field.Rows (Count n)

-- what a composer has where a count of no rows comes next
abbrev pub without_rows : ComposerState → ComposerState
without_rows s = with_next s (rows_event 0)

-- What a composer's events, and a count of n rows, make: the frame that has these events and no rows, with n rows; or why there is none.
abbrev pub IsBare : ComposerState → (n : ℕ) → Result OwnedFrame BeginError → Type 0
IsBare s n (Ok f) =
    (refusal_of s (rows_event 0) ≡ None)
    × (g : OwnedFrame) × Ends (without_rows s).frame.events (Ok g) × SetsRows (frame_of g) n (Ok f)
IsBare s n (Err error.NoPage) =
    (refusal_of s (rows_event 0) ≡ None)
    × (g : OwnedFrame) × Ends (without_rows s).frame.events (Ok g) × SetsRows (frame_of g) n (Err error.NoPage)
IsBare s n (Err (error.Build build_error.NoMemory)) = refusal_of s (rows_event 0) ≡ None
IsBare s n (Err (error.Build why)) =
    (refusal_of s (rows_event 0) ≡ Some why) ⊎ ((refusal_of s (rows_event 0) ≡ None) × Ends (without_rows s).frame.events (Err why))
IsBare s n (Err (error.Unfit why)) = ⊥

-- ---- its cells

-- How many bytes the cells are said to have, or the most that a number of four bytes says: no body has as many.
abbrev pub said_len : (n : ℕ) → ℕ
said_len n = min n 4294967295

-- A page, whose numbers are in their ranges, is begun where nothing keeps it from being written with cells of n bytes.
abbrev pub BeginsBare : FrameValue → (n : ℕ) → Result BegunPage BeginError → Type 0
BeginsBare f n (Ok b) =
    (page_unfit_of f n ≡ None) × (frame_of b.page.frame ≡ f) × (b.page.place ≡ first_place n) × (b.head.items ≡ page_head f n)
    × FrameIsInRange f
BeginsBare f n (Err (error.Unfit why)) = page_unfit_of f n ≡ Some why
BeginsBare f n (Err (error.Build build_error.NoMemory)) = page_unfit_of f n ≡ None
BeginsBare f n (Err e) = ⊥

-- What becomes of a composer's events, a count of n rows, and cells of so many bytes: a page is begun; or there is none, or none with such cells.
abbrev pub Begins : ComposerState → (n cells_len : ℕ) → Result BegunPage BeginError → Type 0
Begins s n len (Ok b) = (f : OwnedFrame) × IsBare s n (Ok f) × BeginsBare (frame_of f) (said_len len) (Ok b)
Begins s n len (Err (error.Unfit why)) = (f : OwnedFrame) × IsBare s n (Ok f) × BeginsBare (frame_of f) (said_len len) (Err (error.Unfit why))
Begins s n len (Err why) = IsBare s n (Err why)

-- ---- the end

abbrev pub ends_where : (cells bytes : Bool) → Result (Unit {0}) Unended
ends_where false b = Err unended.CellsMissing
ends_where true false = Err unended.BytesMissing
ends_where true true = Ok tt

-- All cells of a page have come, and all bytes that they were to have; or what it still wants.
abbrev pub ends : FrameValue → PageProgress → Result (Unit {0}) Unended
ends f p = ends_where (p.cells == cells_wanted f.message) (p.free == 0)
