-- Where a page is whose cells come some at a time (section 4.2.5.2 of native_protocol_v4.spec).
use Rattle.std.specs.Prelude.{◌≡◌, ◌==◌, ◌&&◌, ℕ, zero, suc, Bool, List, [], ◌∷◌, Option, Some, None, Result, Ok, Err, Vec}
use Rattle.std.specs.declared.alloc.Global.{Global}
use Rattle.cqlp_type.specs.declared.tree.TypeTree.{TypeTree}
use Rattle.cqlp_message.specs.declared.frame.Frame.{Frame}
use Rattle.cqlp_message.specs.declared.message.Message.{Message}
use Rattle.cqlp_message.specs.declared.message.Message.TheVariants as message
use Rattle.cqlp_message.specs.declared.response.Spec.{Spec}
use Rattle.cqlp_message.specs.declared.unfit.Unfit.{Unfit}
use Rattle.cqlp_message.specs.FrameValues.{FrameValue}
use Rattle.cqlp_message.specs.Pages.{cells_wanted, page_head, page_unfit_of}
use Rattle.cqlp_compose.specs.declared.error.HeadError.{HeadError}
use Rattle.cqlp_compose.specs.declared.error.HeadError.TheVariants as error
use Rattle.cqlp_compose.specs.declared.place.PageProgress.{PageProgress}

-- before the first cell, where all cells are to have n bytes
abbrev pub first_place : (n : ℕ) → PageProgress
first_place n = record { cells = 0; free = n }

-- there, unless something keeps the frame from being such a page
abbrev pub place_unless : Option Unfit → (n : ℕ) → Result PageProgress Unfit
place_unless None n = Ok (first_place n)
place_unless (Some why) n = Err why

-- all cells of a page have come, and all bytes that they were to have
abbrev pub is_done : FrameValue → PageProgress → Bool
is_done f p = (p.cells == cells_wanted f.message) && (p.free == 0)

-- What comes before the first cell; or why the frame is no page that can be written with cells of n bytes.
abbrev pub IsHeadOf : FrameValue → (n : ℕ) → Result (Vec ℕ Global) HeadError → Type 0
IsHeadOf f n (Ok bytes) = (page_unfit_of f n ≡ None) × (bytes.items ≡ page_head f n)
IsHeadOf f n (Err (error.Unfit why)) = page_unfit_of f n ≡ Some why
IsHeadOf f n (Err error.NoMemory) = page_unfit_of f n ≡ None

-- ---- columns

-- the type of the column of this number, if there is one
abbrev pub type_at : List Spec → ℕ → Option TypeTree
type_at [] i = None
type_at (c ∷ cs) zero = Some c.tree
type_at (c ∷ cs) (suc i) = type_at cs i

abbrev pub type_if : Option (Vec Spec Global) → ℕ → Option TypeTree
type_if None i = None
type_if (Some cs) i = type_at cs.items i

abbrev pub type_in : Message → ℕ → Option TypeTree
type_in (message.Rows p) i = type_if p.meta.specs i
type_in m i = None

-- the type of a column of a page, the first of which is 0, where it is described
abbrev pub described_type : Frame → ℕ → Option TypeTree
described_type f i = type_in f.message i
