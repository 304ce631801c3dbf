-- What a writer of lines has taken, and what it passed on.
use Rattle.std.specs.Prelude.{◌≡◌, ℕ, true, List, [], ◌∷◌, ◌++◌, Option, Some, Result, Ok, Err}
use Rattle.std.specs.Io.KnownBytes.{append_known}
use Rattle.cqlp_note.specs.declared.streams.Target.{Ghosts}
use Rattle.cqlp_note.specs.Streams.{counted}
use Rattle.cqlp_grammar.specs.declared.sink.SinkFault.{SinkFault}

-- What the target was given, where that is known, how often it failed, and what waits to be passed on; and the name of
-- the borrow through which it is given that.
pub record Written : Type 0 where
  pub given : Option (List ℕ)
  pub failures : ℕ
  pub waiting : List ℕ
  pub lender : ℕ

-- Some of the waiting bytes and of these, in order, were passed on, and the others are left.
abbrev pub PassesOn : (old : Written) → List ℕ → (left : List ℕ) → (given : Option (List ℕ)) → Type 0
PassesOn old bytes left given =
    (text : List ℕ) → old.given ≡ Some text
    → (sent : List ℕ) × (given ≡ Some (text ++ sent)) × (sent ++ left ≡ old.waiting ++ bytes)

-- All of the bytes were taken.
pub record Receives (old : Written) (bytes : List ℕ) (new : Written) : Type 0 where
  pub passed : PassesOn old bytes new.waiting new.given
  pub failures : new.failures ≡ old.failures
  pub lender : new.lender ≡ old.lender

-- One call of the target failed before all of the waiting bytes and of these were passed on, and the others are lost.
pub record BreaksOff (old : Written) (bytes : List ℕ) (new : Written) : Type 0 where
  pub lost : ℕ
  pub later : List ℕ
  pub passed : PassesOn old bytes (lost ∷ later) new.given
  pub failures : new.failures ≡ counted true old.failures
  pub waiting : new.waiting ≡ []
  pub lender : new.lender ≡ old.lender

-- The bytes were taken, or the target failed.
abbrev pub Writes : (old : Written) → List ℕ → Result (Unit {0}) SinkFault → (new : Written) → Type 0
Writes old bytes (Ok u) new = Receives old bytes new
Writes old bytes (Err e) new = BreaksOff old bytes new

-- a target that is owned, with nothing that waits
abbrev pub bare : (given : Option (List ℕ)) → (failures : ℕ) → Written
bare given failures = record { given = given; failures = failures; waiting = []; lender = 0 }

abbrev pub buffered : {W : Type 0} → Ghosts W → W → (waiting : List ℕ) → (lender : ℕ) → Written
buffered members target waiting lender =
    record { given = members.contents target; failures = members.failures target; waiting = waiting; lender = lender }

abbrev pub unbuffered : {W : Type 0} → Ghosts W → W → Written
unbuffered members target = bare (members.contents target) (members.failures target)

-- what was given and what waits
abbrev pub taken : Written → Option (List ℕ)
taken w = append_known w.given w.waiting
