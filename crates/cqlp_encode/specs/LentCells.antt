-- Pages whose cells are lent twice, first to be measured and then to be written (section 4.2.5.2 of
-- native_protocol_v4.spec).
use Rattle.std.specs.Prelude.{◌≡◌, ◌<◌, ◌≤◌, ◌++◌, ◌==◌, ◌&&◌, ◌⊎◌, ℕ, Bool, true, false, not, nat_le}
use Rattle.std.specs.Prelude.{List, [], ◌∷◌, length, map, Option, Some, None, Result, Ok, Err}
use Rattle.std.specs.Borrow.{Bor}
use Rattle.cqlp_note.specs.Outputs.{Output, Offered}
use Rattle.cqlp_value.specs.declared.value.Value.{Value}
use Rattle.cqlp_value.specs.Owned.{value_of}
use Rattle.cqlp_value.specs.Values.{Values}
use Rattle.cqlp_message.specs.declared.unfit.Unfit.{Unfit}
use Rattle.cqlp_message.specs.declared.unfit.Unfit.TheVariants as unfit
use Rattle.cqlp_message.specs.FrameValues.{FrameValue}
use Rattle.cqlp_message.specs.Frames.{first_of, if_none}
use Rattle.cqlp_message.specs.Pages.{cells_bytes, cells_fit, cells_size, cells_wanted, page_head, page_obstacles, with_cells}
use Rattle.cqlp_encode.specs.Encoding.{Encodes}
use Rattle.cqlp_encode.specs.declared.lent_page.LentError.{LentError}
use Rattle.cqlp_encode.specs.declared.lent_page.LentError.TheVariants as error

-- the cells that an iterator lent
abbrev pub cells_of : List (Bor Value) → List Values
cells_of lent = map (λ (cell : Bor Value). value_of cell.now) lent

-- ---- the first time

-- What keeps a page from being written with these cells, each with its name, in the order in which it is reported: what keeps
-- it from being written with cells of as many bytes; they are not as many as its rows and columns want; one is none of
-- its column's type.
abbrev pub lent_obstacles : FrameValue → List Values → List (Bool × Unfit)
lent_obstacles f cells =
    page_obstacles f (cells_size cells)
    ++ (not (length cells == cells_wanted f.message), unfit.RowShape)
    ∷ (not (cells_fit f cells), unfit.CellType)
    ∷ []

-- why a page is not written with these cells, or None where it is
abbrev pub lent_unfit_of : FrameValue → List Values → Option Unfit
lent_unfit_of f cells = first_of (lent_obstacles f cells)

-- how many bytes these cells of a page have, or why the page is not written with them
abbrev pub measure_of : FrameValue → List Values → Result ℕ Unfit
measure_of f cells = if_none (lent_unfit_of f cells) (cells_size cells)

-- ---- the second time

-- These cells can be the first of a page with cells of n bytes: they are no more than it wants, each is of its column's
-- type, and they have no more bytes.
abbrev pub are_front : FrameValue → (n : ℕ) → List Values → Bool
are_front f n cells = nat_le (length cells) (cells_wanted f.message) && cells_fit f cells && nat_le (cells_size cells) n

-- They are all of them.
abbrev pub are_all : FrameValue → (n : ℕ) → List Values → Bool
are_all f n cells = (length cells == cells_wanted f.message) && (cells_size cells == n)

-- the bytes of a page with cells of n bytes up to the last of these cells
abbrev pub front_bytes : FrameValue → (n : ℕ) → List Values → List ℕ
front_bytes f n cells = page_head f n ++ cells_bytes cells

-- The target took k bytes of a page up to the last of the cells that were lent, all of those before that one, and failed.
pub record Stops (f : FrameValue) (n : ℕ) (lent : List Values) (k : ℕ) (old new : Output) : Type 0 where
  pub front : are_front f n lent ≡ true
  pub less : k < length (front_bytes f n lent)
  pub last :
      (lent ≡ [])
      ⊎ ((cells : List Values) × (v : Values) × (lent ≡ cells ++ v ∷ []) × (length (front_bytes f n cells) ≤ k))
  pub offered : Offered old (front_bytes f n lent) k new

-- A cell was lent that is not the next of a page with cells of n bytes, or none though more are wanted. Those before it
-- were written, and no call of the target failed.
pub data Changes (f : FrameValue) (n : ℕ) (lent : List Values) (ended : Bool) (old new : Output) : Type 0 where
  Another :
      (cells : List Values) (v : Values) → lent ≡ cells ++ v ∷ [] → are_front f n cells ≡ true → are_front f n lent ≡ false
      → Offered old (front_bytes f n cells) (length (front_bytes f n cells)) new → Changes f n lent ended old new
  TooFew :
      ended ≡ true → are_front f n lent ≡ true → are_all f n lent ≡ false
      → Offered old (front_bytes f n lent) (length (front_bytes f n lent)) new → Changes f n lent ended old new

-- What becomes of a page whose cells were these when they were lent first. Then these were lent again, and that they have
-- ended, or a call or a cell before that stopped it.
abbrev pub EncodesLent :
    FrameValue → (first again : List Values) → (ended : Bool) → (old : Output) → Result ℕ LentError → (new : Output) → Type 0
EncodesLent f first again ended old (Ok size) new =
    (lent_unfit_of f first ≡ None) × (ended ≡ true) × (are_front f (cells_size first) again ≡ true)
    × (are_all f (cells_size first) again ≡ true) × Encodes (with_cells f again) old (Ok size) new
EncodesLent f first again ended old (Err (error.Unfit why)) new =
    (lent_unfit_of f first ≡ Some why) × (again ≡ []) × (new ≡ old)
EncodesLent f first again ended old (Err error.Changed) new =
    (lent_unfit_of f first ≡ None) × Changes f (cells_size first) again ended old new
EncodesLent f first again ended old (Err (error.Write k)) new =
    (lent_unfit_of f first ≡ None) × Stops f (cells_size first) again k old new
