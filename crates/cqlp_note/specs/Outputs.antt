-- What a target was given.
use Rattle.std.specs.Prelude.{◌≡◌, ◌≤◌, ℕ, nat_lt, List, length, take, Option}
use Rattle.std.specs.Io.KnownBytes.{Appends}
use Rattle.cqlp_note.specs.declared.streams.Target.{Ghosts}
use Rattle.cqlp_note.specs.Streams.{counted}

-- what a target was given, where that is known, and how often it failed
pub record Output : Type 0 where
  pub given : Option (List ℕ)
  pub failures : ℕ

abbrev pub output : Option (List ℕ) → ℕ → Output
output given failures = record { given = given; failures = failures }

abbrev pub written : {W : Type 0} → Ghosts W → W → Output
written members target = output (members.contents target) (members.failures target)

-- The target took the first n of these bytes, and failed where they are not all.
pub record Offered (old : Output) (bytes : List ℕ) (n : ℕ) (new : Output) : Type 0 where
  pub bound : n ≤ length bytes
  pub given : Appends old.given new.given (take n bytes)
  pub failures : new.failures ≡ counted (nat_lt n (length bytes)) old.failures
