-- Frames whose headers are not asked for their length.
use Rattle.std.specs.Prelude.{◌≡◌, ⊤, ℕ, ◌++◌, ◌⊎◌, true, List, [], ◌∷◌, Option, Some, None, Result, Ok, Err}
use Rattle.cqlp_note.specs.declared.header.Header.{Header}
use Rattle.cqlp_note.specs.Heading.{answers, same}
use Rattle.cqlp_grammar.specs.Events.{Event, Frame, End}
use Rattle.cqlp_message.specs.FrameValues.{FrameValue}
use Rattle.cqlp_message.specs.Frames.{unfit_of}
use Rattle.cqlp_message.specs.Owned.{frame_of}
use Rattle.cqlp_message.specs.declared.frame.Frame.{Frame as OwnedFrame}
use Rattle.cqlp_build.specs.declared.error.BuildError.{BuildError}
use Rattle.cqlp_build.specs.declared.error.BuildError.TheVariants as error
use Rattle.cqlp_build.specs.declared.held.FrameEvents.{FrameEvents}
use Rattle.cqlp_build.specs.Building.{AreEventsOf, AreOfNone, BeginsWith, BuilderState, CanBeBuilt, HaveNoParts, empty}
use Rattle.cqlp_build.specs.FrameEvents.{IsRefused, IsSound, left}

-- this header, of a body of n bytes
abbrev pub of_length : Header → (n : ℕ) → Header
of_length h n = record h { length = n }

-- the events of a frame that ends after its last field, whose body has n bytes
abbrev pub closed : Header → (n : ℕ) → List Event → List Event
closed h n es = Frame (of_length h n) ∷ es ++ End 0 ∷ []

-- With some length in the header, the events are those of this frame, no scalar of its cells in parts; and of no other, with any length.
pub record IsClosedOf (h : Header) (es : List Event) (f : FrameValue) : Type 0 where
  pub size : ℕ
  pub are : AreEventsOf (closed h size es) f 0
  pub can : CanBeBuilt f
  pub whole : HaveNoParts es
  pub only : (n : ℕ) (g : FrameValue) → CanBeBuilt g → AreEventsOf (closed h n es) g 0 → g ≡ f

-- The events are those of this frame alone; or, with whatever length, of none.
abbrev pub ClosesAt : Header → List Event → Result OwnedFrame BuildError → Type 0
ClosesAt h es (Ok f) = IsClosedOf h es (frame_of f)
ClosesAt h es (Err error.NoFrame) = (n : ℕ) → AreOfNone (closed h n es)
ClosesAt h es (Err error.NoMemory) = ⊤
ClosesAt h es (Err e) = ⊥

-- What becomes of the frame under way that ends; between frames there is none, and nothing changes.
abbrev pub Ends : List Event → Result OwnedFrame BuildError → Type 0
Ends [] r = r ≡ Err error.Misplaced
Ends (Frame h ∷ es) r = ClosesAt h es r
Ends (e ∷ es) r = ⊥

abbrev pub Closes : BuilderState → Result OwnedFrame BuildError → BuilderState → Type 0
Closes old r new = Ends old.events r × (((old.events ≡ []) × (new ≡ old)) ⊎ (new ≡ empty old.limits))

-- Some bytes spell the frame, and the header is of the direction of its opcode.
abbrev pub IsOfSome : Header → FrameValue → Type 0
IsOfSome h f = (unfit_of f ≡ None) × (same h.response (answers h.opcode) ≡ true)

-- What is reported of a frame whose parts were taken: nothing where nothing was refused, nothing is left, and it is of the header
-- with some length, if it begins with it.
abbrev pub ReportsOf : Header → FrameValue → FrameEvents → Option BuildError → Type 0
ReportsOf h f after None = IsSound after × (left after ≡ []) × (BeginsWith h f → IsOfSome h f)
ReportsOf h f after (Some error.NoFrame) = IsRefused after ⊎ (IsSound after × (((left after ≡ []) → ⊥) ⊎ (BeginsWith h f → IsOfSome h f → ⊥)))
ReportsOf h f after (Some error.NoMemory) = ⊤
ReportsOf h f after (Some e) = ⊥
