-- Pages that are written cell by cell (section 4.2.5.2 of native_protocol_v4.spec).
use Rattle.std.specs.Prelude.{◌≡◌, ℕ, ◌+◌, ◌-◌, ◌<◌, ◌++◌, ◌==◌, ◌⊎◌, Bool, true, false, not, nat_le, nat_lt, ⊤}
use Rattle.std.specs.Prelude.{List, [], ◌∷◌, length, Option, Some, None, Result, Ok, Err}
use Rattle.cqlp_note.specs.Outputs.{Output, Offered}
use Rattle.cqlp_value.specs.Values.{Values, values_size, values_bytes}
use Rattle.cqlp_message.specs.declared.unfit.Unfit.TheVariants as unfit
use Rattle.cqlp_message.specs.declared.frame.Frame.{Frame}
use Rattle.cqlp_message.specs.FrameValues.{FrameValue}
use Rattle.cqlp_message.specs.Owned.{frame_of}
use Rattle.cqlp_message.specs.Frames.{frame_size, frame_bytes, unfit_of, first_of}
use Rattle.cqlp_message.specs.Pages.{page_unfit_of, page_head, with_cells, cells_wanted}
use Rattle.cqlp_message.specs.Pages.{cells_fit, cells_size, cells_bytes}
use Rattle.cqlp_encode.specs.Encoding.{Continued}
use Rattle.cqlp_encode.specs.declared.page_writer.PageError.{PageError}
use Rattle.cqlp_encode.specs.declared.page_writer.PageError.TheVariants as error

-- Where a writer is: the frame without its cells, how many cells and how many bytes of cells are still to come, how
-- many bytes targets took of the frame, and whether one failed, and then how many of those bytes are of the cell in which
-- it did.
pub record PageState : Type 0 where
  pub frame : Frame
  pub left : ℕ
  pub free : ℕ
  pub written : ℕ
  pub failed : Bool
  pub cut : ℕ

-- what the frame without its cells holds
abbrev pub page : PageState → FrameValue
page p = frame_of p.frame

-- A writer of a page with cells of n bytes is after these cells, each of its column's type. All bytes up to there were
-- taken; and where a target failed, also some of the next cell.
pub record After (p : PageState) (n : ℕ) (cells : List Values) : Type 0 where
  pub begun : page_unfit_of (page p) n ≡ None
  pub fit : cells_fit (page p) cells ≡ true
  pub left : p.left + length cells ≡ cells_wanted (page p).message
  pub free : p.free + cells_size cells ≡ n
  pub written : p.failed ≡ false → p.written + p.free ≡ frame_size (page p) n
  pub cut : p.written - p.cut + p.free ≡ frame_size (page p) n
  pub uncut : p.failed ≡ false → p.cut ≡ 0

-- ---- begin

-- All that comes before the first cell was appended; or the frame is no such page, and the target is as it was; or the
-- target failed after the first bytes, which were appended.
abbrev pub Begins : Frame → ℕ → (old : Output) → Result PageState PageError → (new : Output) → Type 0
Begins f n old (Ok p) new =
    let page = frame_of f in
    (p.frame ≡ f) × (p.failed ≡ false) × After p n [] × (length (page_head page n) ≡ frame_size page 0)
    × Offered old (page_head page n) (frame_size page 0) new
Begins f n old (Err (error.Unfit why)) new = (page_unfit_of (frame_of f) n ≡ Some why) × (new ≡ old)
Begins f n old (Err (error.Write k)) new =
    let page = frame_of f in
    (page_unfit_of page n ≡ None) × (length (page_head page n) ≡ frame_size page 0) × (k < frame_size page 0)
    × Offered old (page_head page n) k new
Begins f n old (Err e) new = ⊥

-- The same of a frame of which the target has the first bytes, this many, from before: the answers count these too.
abbrev pub BeginsFrom : Frame → ℕ → (before : ℕ) → (old : Output) → Result PageState PageError → (new : Output) → Type 0
BeginsFrom f n before old (Ok p) new =
    let page = frame_of f in
    (p.frame ≡ f) × (p.failed ≡ false) × After p n [] × (length (page_head page n) ≡ frame_size page 0)
    × Continued before old (page_head page n) (frame_size page 0) new
BeginsFrom f n before old (Err (error.Unfit why)) new = (page_unfit_of (frame_of f) n ≡ Some why) × (new ≡ old)
BeginsFrom f n before old (Err (error.Write k)) new =
    let page = frame_of f in
    (page_unfit_of page n ≡ None) × (length (page_head page n) ≡ frame_size page 0) × (k < frame_size page 0)
    × Continued before old (page_head page n) k new
BeginsFrom f n before old (Err e) new = ⊥

-- ---- cell

-- What keeps a value from being the next cell after these, each with what is reported, in this order: a target failed
-- before; all cells are there; the value is none of its column's type; its bytes would pass those that the cells are to
-- have.
abbrev pub cell_obstacles : PageState → List Values → Values → List (Bool × PageError)
cell_obstacles p cells v =
    (p.failed, error.Write p.written)
    ∷ (p.left == 0, error.OutOfTurn)
    ∷ (not (cells_fit (page p) (cells ++ v ∷ [])), error.Unfit unfit.CellType)
    ∷ (nat_lt p.free (values_size v), error.PastLength)
    ∷ []

-- why a value is not the next cell after these, or None where it is
abbrev pub cell_error : PageState → List Values → Values → Option PageError
cell_error p cells v = first_of (cell_obstacles p cells v)

-- the writer with one cell more, of this many bytes
abbrev pub one_more : PageState → (size : ℕ) → PageState
one_more p size = record {
  frame = p.frame;
  left = p.left - 1;
  free = p.free - size;
  written = p.written + size;
  failed = false;
  cut = 0;
}

-- the writer whose target failed after this many bytes of the frame
abbrev pub failed_after : PageState → ℕ → PageState
failed_after p k = record {
  frame = p.frame;
  left = p.left;
  free = p.free;
  written = k;
  failed = true;
  cut = k - p.written;
}

-- The target took the first bytes of a cell, and no more: k of the frame.
pub record CellCut (p : PageState) (v : Values) (k : ℕ) (old new : Output) (q : PageState) : Type 0 where
  pub taken : ℕ
  pub some : taken < values_size v
  pub count : k ≡ p.written + taken
  pub offered : Offered old (values_bytes v) taken new
  pub after : q ≡ failed_after p k

-- What `cell` answers after these cells, and what it leaves: the value's bytes were appended, and it is the next cell;
-- or the target failed in it; or the call is refused, and nothing is changed.
abbrev pub Adds :
    PageState → List Values → Values → (old : Output) → Result ⊤ PageError → (new : Output) → PageState → Type 0
Adds p cells v old (Ok u) new q =
    (cell_error p cells v ≡ None) × (length (values_bytes v) ≡ values_size v)
    × Offered old (values_bytes v) (values_size v) new × (q ≡ one_more p (values_size v))
Adds p cells v old (Err (error.Write k)) new q =
    ((cell_error p cells v ≡ Some (error.Write k)) × (new ≡ old) × (q ≡ p))
    ⊎ ((cell_error p cells v ≡ None) × CellCut p v k old new q)
Adds p cells v old (Err e) new q = (cell_error p cells v ≡ Some e) × (new ≡ old) × (q ≡ p)

-- the cells that are written after a call
abbrev pub cells_after : Result ⊤ PageError → List Values → Values → List Values
cells_after (Ok u) cells v = cells ++ v ∷ []
cells_after (Err e) cells v = cells

-- These cells were written after those, one after the other.
abbrev pub AddsAll : PageState → (before cells : List Values) → (old new : Output) → PageState → Type 0
AddsAll p before [] old new q = (new ≡ old) × (q ≡ p)
AddsAll p before (v ∷ cells) old new q =
    (r : PageState) × (mid : Output) × Adds p before v old (Ok tt) mid r × AddsAll r (before ++ v ∷ []) cells mid new q

-- ---- a cell that is gone on with

-- the writer as it was before the cell in which a target failed
abbrev pub before_cut : PageState → PageState
before_cut p = record {
  frame = p.frame;
  left = p.left;
  free = p.free;
  written = p.written - p.cut;
  failed = false;
  cut = 0;
}

-- What keeps a value from being the cell in which a target failed, each with what is reported, in this order: none failed;
-- what keeps it from being the next cell; it has no more bytes than targets took of that one.
abbrev pub rest_error : PageState → List Values → Values → Option PageError
rest_error p cells v =
    first_of ((not p.failed, error.OutOfTurn) ∷ cell_obstacles (before_cut p) cells v
    ++ (nat_le (values_size v) p.cut, error.OutOfTurn) ∷ [])

-- The target took bytes of a cell behind those that were there before, and not all; k of the frame.
pub record RestCut (p : PageState) (v : Values) (k : ℕ) (old new : Output) (q : PageState) : Type 0 where
  pub taken : ℕ
  pub some : taken < values_size v
  pub count : k ≡ (before_cut p).written + taken
  pub continued : Continued p.cut old (values_bytes v) taken new
  pub after : q ≡ failed_after (before_cut p) k

-- What `resume` answers after these cells, and what it leaves: the value's bytes behind those that targets took before
-- were appended, and it is the next cell; or the target failed in them; or the call is refused, and nothing is changed.
abbrev pub AddsRest :
    PageState → List Values → Values → (old : Output) → Result ⊤ PageError → (new : Output) → PageState → Type 0
AddsRest p cells v old (Ok u) new q =
    (rest_error p cells v ≡ None) × (length (values_bytes v) ≡ values_size v)
    × Continued p.cut old (values_bytes v) (values_size v) new × (q ≡ one_more (before_cut p) (values_size v))
AddsRest p cells v old (Err (error.Write k)) new q = (rest_error p cells v ≡ None) × RestCut p v k old new q
AddsRest p cells v old (Err e) new q = (rest_error p cells v ≡ Some e) × (new ≡ old) × (q ≡ p)

-- Attempts at one cell, the first by `cell` and each other one where the one before stopped: how each left the target and
-- the writer, and then what the last answers.
abbrev pub GoesOn :
    PageState → List Values → Values → (old : Output) → List (ℕ × Output × PageState) → Result ⊤ PageError → (new : Output)
    → PageState → Type 0
GoesOn p cells v old [] r new q = AddsRest p cells v old r new q
GoesOn p cells v old (stop ∷ stops) r new q =
    AddsRest p cells v old (Err (error.Write stop.0)) stop.1 stop.2 × GoesOn stop.2 cells v stop.1 stops r new q

-- ---- finish

-- What `finish` answers after these cells: the number of bytes of the frame with them, which are those that `begin`
-- appended to its target and then each `cell` to its own; or a target failed; or cells or bytes of them are wanting.
abbrev pub Finishes : PageState → (n : ℕ) → List Values → Result ℕ PageError → Type 0
Finishes p n cells (Ok size) =
    (p.failed ≡ false) × (p.left + p.free ≡ 0) × (size ≡ frame_size (with_cells (page p) cells) 0)
    × (unfit_of (with_cells (page p) cells) ≡ None)
    × (page_head (page p) n ++ cells_bytes cells ≡ frame_bytes (with_cells (page p) cells))
Finishes p n cells (Err (error.Write k)) = (p.failed ≡ true) × (k ≡ p.written)
Finishes p n cells (Err error.NotDone) = (p.failed ≡ false) × (nat_lt 0 (p.left + p.free) ≡ true)
Finishes p n cells (Err e) = ⊥
