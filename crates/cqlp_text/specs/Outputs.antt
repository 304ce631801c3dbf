-- What a target was given of a text.
use Rattle.std.specs.Prelude.{◌≡◌, ℕ, true, List, ◌∷◌, ◌++◌, IsSome, Result, Ok, Err}
use Rattle.std.specs.Io.KnownBytes.{append_known}
use Rattle.cqlp_note.specs.Streams.{counted}
pub use Rattle.cqlp_note.specs.Outputs.{Output, output, written, Offered}
use Rattle.cqlp_grammar.specs.declared.sink.SinkFault.{SinkFault}

-- with more text
abbrev pub with_text : Output → List ℕ → Output
with_text o text = output (append_known o.given text) o.failures

-- One call of the target failed before the whole text was written.
pub record StopsWithin (old : Output) (text : List ℕ) (new : Output) : Type 0 where
  pub sent : List ℕ
  pub lost : ℕ
  pub later : List ℕ
  pub split : sent ++ lost ∷ later ≡ text
  pub given : new.given ≡ append_known old.given sent
  pub failures : new.failures ≡ counted true old.failures

-- The whole text was written, or the target failed within it.
abbrev pub WritesText : (old : Output) → List ℕ → Result (Unit {0}) SinkFault → (new : Output) → Type 0
WritesText old text (Ok u) new = new ≡ with_text old text
WritesText old text (Err e) new = StopsWithin old text new

-- The same of a target of which it is known what it was given.
abbrev pub AppendsText : (old : Output) → List ℕ → Result (Unit {0}) SinkFault → (new : Output) → Type 0
AppendsText old text r new = IsSome old.given → WritesText old text r new

-- One call of the target failed.
abbrev pub HasFailed : (before after : Output) → Type 0
HasFailed before after = after.failures ≡ counted true before.failures
