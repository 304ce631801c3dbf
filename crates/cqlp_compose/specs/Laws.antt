-- Laws of frames that are written of their events.
use Rattle.std.specs.Prelude.{◌≡◌, ⊤, ◌⊎◌, ℕ, List, Vec, Result, Ok, Err, MatchResult}
use Rattle.std.specs.declared.alloc.Global.{Global}
use Rattle.cqlp_grammar.specs.Events.{Event}
use Rattle.cqlp_message.specs.Owned.{frame_of}
use Rattle.cqlp_message.specs.declared.frame.Frame.{Frame as OwnedFrame}
use Rattle.cqlp_build.specs.declared.error.BuildError.{BuildError}
use Rattle.cqlp_build.specs.declared.error.BuildError.TheVariants as error
use Rattle.cqlp_build.specs.Closing.{Ends}
use Rattle.cqlp_compose.specs.Composing.{ComposerState, IsOfNone, IsWrittenOf, Takes}

-- Memory was refused, and nothing changed.
abbrev pub LacksMemory : (old : ComposerState) → Result Unit BuildError → (after : ComposerState) → Type 0
LacksMemory old a after = (a ≡ Err error.NoMemory) × (after ≡ old)

-- An event has one answer and leaves one state, but where memory is refused.
abbrev pub OneAnswerOfTake : Type 0
OneAnswerOfTake =
    (old : ComposerState) (e : Event) (a b : Result Unit BuildError) (after_a after_b : ComposerState)
    → Takes old e a after_a → Takes old e b after_b
    → ((a ≡ b) × (after_a ≡ after_b)) ⊎ (LacksMemory old a after_a ⊎ LacksMemory old b after_b)

-- one frame, wherever it lies in memory, or one reason; or memory was refused to one of two that else are the same
abbrev pub AreSameFrames : Result OwnedFrame BuildError → Result OwnedFrame BuildError → Type 0
AreSameFrames (Err error.NoMemory) b = ⊤
AreSameFrames a (Err error.NoMemory) = ⊤
AreSameFrames (Ok f) (Ok g) = frame_of f ≡ frame_of g
AreSameFrames (Err a) (Err b) = a ≡ b
AreSameFrames a b = ⊥

-- The same events end as one frame, or for one reason as none, but where memory is refused.
abbrev pub OneAnswerOfClose : Type 0
OneAnswerOfClose = (es : List Event) (a b : Result OwnedFrame BuildError) → Ends es a → Ends es b → AreSameFrames a b

-- the same of bytes
abbrev pub AreSameBytes : Result (Vec ℕ Global) BuildError → Result (Vec ℕ Global) BuildError → Type 0
AreSameBytes (Err error.NoMemory) b = ⊤
AreSameBytes a (Err error.NoMemory) = ⊤
AreSameBytes (Ok v) (Ok w) = v.items ≡ w.items
AreSameBytes (Err a) (Err b) = a ≡ b
AreSameBytes a b = ⊥

-- what is written of these events, or why nothing is
abbrev pub Writes : List Event → Result (Vec ℕ Global) BuildError → Type 0
Writes es r = MatchResult r (λ v. IsWrittenOf es v.items) (λ why. IsOfNone es why)

-- Of the same events the same bytes are written, or for one reason none, but where memory is refused.
abbrev pub OneAnswerOfWrite : Type 0
OneAnswerOfWrite = (es : List Event) (a b : Result (Vec ℕ Global) BuildError) → Writes es a → Writes es b → AreSameBytes a b
