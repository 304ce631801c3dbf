-- Where a writer of a page is among its columns, the bounds of its numbers, and what a check of a cell answers.
use Rattle.std.specs.Prelude.{◌≡◌, ℕ, ◌+◌, ◌-◌, ◌*◌, ◌^◌, ◌<◌, ◌≤◌, ◌++◌, min, Bool, true, false, List, [], ◌∷◌, length, Some, None, Result, Ok, Err, ⊤}
use Rattle.std.specs.Int.{w32, to_be_bytes}
use Rattle.cqlp_note.specs.declared.header.TheConstants.Header.{LONGEST_BODY}
use Rattle.cqlp_message.specs.declared.frame.Frame.{Frame}
use Rattle.cqlp_message.specs.declared.response.Spec.{Spec}
use Rattle.cqlp_message.specs.Owned.{frame_of}
use Rattle.cqlp_message.specs.Pages.{page_columns, columns_described, cells_wanted, cells_fit}
use Rattle.cqlp_value.specs.Values.{Values, values_size, values_bytes}
use Rattle.cqlp_encode.specs.declared.page_writer.PageError.{PageError}
use Rattle.cqlp_encode.specs.declared.page_writer.PageError.TheVariants as error
use Rattle.cqlp_encode.specs.PageWriting.{PageState, page, cell_error, failed_after, one_more}

-- After whole rows, and the cells of one that come before this column, the others are still to come. No more bytes are
-- still to come than a body can have, and with those that targets took, but for those of a cell in which one failed, they
-- are no more than a frame can have.
pub record IsPlace (p : PageState) (at : ℕ) : Type 0 where
  pub row : ℕ
  pub cells : row * page_columns (page p).message + at + p.left ≡ cells_wanted (page p).message
  pub column : 0 < p.left → at < page_columns (page p).message
  pub free : p.free ≤ LONGEST_BODY
  pub bounded : p.written + p.free ≤ 9 + LONGEST_BODY + p.cut
  pub cut : p.cut ≤ p.written
  pub uncut : p.failed ≡ false → p.cut ≡ 0

-- These are the columns that the page describes, and this is how many it has.
pub record HasColumns (f : Frame) (specs : List Spec) (columns : ℕ) : Type 0 where
  pub described : specs ≡ columns_described f.message
  pub number : columns ≡ page_columns (frame_of f).message

-- It is spelled by this content after its length.
abbrev pub IsSized : Values → List ℕ → Type 0
IsSized v content = values_bytes v ≡ to_be_bytes w32 (length content) ++ content

-- This is how many bytes spell it; 2^64 - 1 where there are more.
abbrev pub HasSize : Values → ℕ → Type 0
HasSize v size = size ≡ min (values_size v) (2 ^ 64 - 1)

-- What a check of the next cell answers: how many bytes it has, or why the value is not it.
abbrev pub Checks : PageState → List Values → Values → Result ℕ PageError → Type 0
Checks p cells v (Ok size) = cell_error p cells v ≡ None
Checks p cells v (Err e) = cell_error p cells v ≡ Some e

-- This cell is of the next column's type just if the value fits, and has then the value's bytes.
pub record Represents (p : PageState) (cells : List Values) (fits : Bool) (v cell : Values) : Type 0 where
  pub fit : 0 < p.left → cells_fit (page p) (cells ++ cell ∷ []) ≡ fits
  pub size : fits ≡ true → values_size cell ≡ values_size v
  pub bytes : fits ≡ true → values_bytes cell ≡ values_bytes v

-- A target took this many bytes of a cell that has this many: all, and it is written; or the target failed in it.
abbrev pub IsTaken : PageState → (size taken : ℕ) → Result ⊤ PageError → PageState → Type 0
IsTaken p size taken (Ok u) q = (size ≤ taken) × (q ≡ one_more p size)
IsTaken p size taken (Err (error.Write k)) q = (taken < size) × (k ≡ p.written + taken) × (q ≡ failed_after p k)
IsTaken p size taken (Err e) q = ⊥
