-- Laws of the builder.
use Rattle.std.specs.Prelude.{◌≡◌, ⊤, ℕ, ◌++◌, ◌⊎◌, List, [], ◌∷◌, true, false, Bool, map, Option, Some, None, Result, Ok, Err, is_ok}
use Rattle.std.specs.List.{AllByRecursion, list_all}
use Rattle.cqlp_note.specs.Limits.{Rules}
use Rattle.cqlp_grammar.specs.Events.{Event}
use Rattle.cqlp_message.specs.FrameValues.{FrameValue}
use Rattle.cqlp_message.specs.Frames.{Flat, FlatAll}
use Rattle.cqlp_message.specs.Owned.{frame_of}
use Rattle.cqlp_build.specs.declared.builder.BuildLimits.{BuildLimits}
use Rattle.cqlp_build.specs.declared.builder.BuiltFrame.{BuiltFrame}
use Rattle.cqlp_build.specs.declared.error.BuildError.{BuildError}
use Rattle.cqlp_build.specs.declared.error.BuildError.TheVariants as error
use Rattle.cqlp_build.specs.Building.{BuilderState, CanBeBuilt, HaveNoParts, TakesEvent, empty}

abbrev pub Answer : Type 0
Answer = Result (Option BuiltFrame) BuildError

-- The answers to events that are taken one after the other.
abbrev pub AreTaken : BuilderState → List Event → List Answer → BuilderState → Type 0
AreTaken old [] [] new = new ≡ old
AreTaken old (e ∷ es) (r ∷ rs) new = (mid : BuilderState) × TakesEvent old e r mid × AreTaken mid es rs new
AreTaken old [] (r ∷ rs) new = ⊥
AreTaken old (e ∷ es) [] new = ⊥

abbrev pub frames_in : Answer → List (FrameValue × ℕ)
frames_in (Ok (Some b)) = (frame_of b.frame, b.extra) ∷ []
frames_in r = []

-- The frames that were given, each with how many bytes there were after its last field.
abbrev pub frames_given : List Answer → List (FrameValue × ℕ)
frames_given [] = []
frames_given (r ∷ rs) = frames_in r ++ frames_given rs

-- nothing was refused
abbrev pub NoneRefused : List Answer → Type 0
NoneRefused rs = list_all is_ok rs ≡ true

-- events without their offsets
abbrev pub without_offsets : List (ℕ × Event) → List Event
without_offsets es = map (λ e. e.1) es

-- The events are the first of this frame, with x bytes after its last field, and not all of them.
pub record AreFirstOf (es : List Event) (f : FrameValue) (x : ℕ) : Type 0 where
  pub rules : Rules
  pub at : ℕ
  pub next : Event
  pub rest : List Event
  pub are : es ++ next ∷ rest ≡ without_offsets (Flat rules at f x)

-- The events of a frame that is cut: none, or the first of one that is built.
abbrev pub IsCut : List Event → Type 0
IsCut [] = ⊤
IsCut (e ∷ es) = (f : FrameValue) × (x : ℕ) × CanBeBuilt f × AreFirstOf (e ∷ es) f x

-- Where a stream has frames that are built one after the other, and at its end one that may be cut, and nothing is refused, the
-- builder gives these frames in order, and holds the events of the one that is cut.
abbrev pub StreamIsBuilt : Type 0
StreamIsBuilt =
    (limits : BuildLimits) (l : Rules) (at : ℕ) (fs : List (FrameValue × ℕ)) (cut : List Event) (rs : List Answer) (new : BuilderState)
    → AllByRecursion (λ f. CanBeBuilt f.0) fs → IsCut cut
    → AreTaken (empty limits) (without_offsets (FlatAll l at fs) ++ cut) rs new → NoneRefused rs
    → (frames_given rs ≡ fs) × (new.events ≡ cut)

-- for want of memory, or as a limit says
abbrev pub is_of_bounds : BuildError → Bool
is_of_bounds error.TooManyFields = true
is_of_bounds error.TooDeep = true
is_of_bounds error.TooManyBytes = true
is_of_bounds error.NoMemory = true
is_of_bounds e = false

-- Of such a stream without parts of scalars nothing is refused first but as a limit says, or for want of memory.
abbrev pub OnlyBoundsRefuse : Type 0
OnlyBoundsRefuse =
    (limits : BuildLimits) (l : Rules) (at : ℕ) (fs : List (FrameValue × ℕ)) (before after : List Event) (rs : List Answer)
    (e : BuildError) (new : BuilderState)
    → AllByRecursion (λ f. CanBeBuilt f.0) fs → before ++ after ≡ without_offsets (FlatAll l at fs)
    → HaveNoParts before → AreTaken (empty limits) before (rs ++ Err e ∷ []) new → NoneRefused rs
    → is_of_bounds e ≡ true

-- the same answer, wherever a frame lies in memory
abbrev pub AreSame : (a b : Answer) → Type 0
AreSame (Ok None) (Ok None) = ⊤
AreSame (Ok (Some b)) (Ok (Some c)) = (frame_of b.frame ≡ frame_of c.frame) × (b.extra ≡ c.extra)
AreSame (Err e) (Err d) = e ≡ d
AreSame a b = ⊥

abbrev pub WantsMemory : Answer → Type 0
WantsMemory r = r ≡ Err error.NoMemory

-- An event has one answer and leaves one state, unless memory was refused.
abbrev pub OneAnswer : Type 0
OneAnswer =
    (old : BuilderState) (e : Event) (a b : Answer) (after_a after_b : BuilderState)
    → TakesEvent old e a after_a → TakesEvent old e b after_b
    → (AreSame a b × (after_a ≡ after_b)) ⊎ (WantsMemory a ⊎ WantsMemory b)
