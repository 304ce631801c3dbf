-- Bytes that a target is given in blocks.
use Rattle.std.specs.Prelude.{◌≡◌, ◌≤◌, ℕ, true, List, [], length, Option, Result, Ok, Err, IsSome}
use Rattle.std.specs.Io.KnownBytes.{append_known}
use Rattle.cqlp_note.specs.declared.streams.IoFault.{IoFault}
use Rattle.cqlp_note.specs.Outputs.{Output, output}
use Rattle.cqlp_note.specs.Streams.{counted}

-- what the target was given, where that is known, how often it failed, what waits to be passed on, and how many calls took all of their bytes
pub record Blocks : Type 0 where
  pub given : Option (List ℕ)
  pub failures : ℕ
  pub waiting : List ℕ
  pub writes : ℕ

abbrev pub blocks : (given : Option (List ℕ)) → (failures : ℕ) → (waiting : List ℕ) → (writes : ℕ) → Blocks
blocks given failures waiting writes = record { given = given; failures = failures; waiting = waiting; writes = writes }

-- what was given and what waits
abbrev pub contents_of : Blocks → Option (List ℕ)
contents_of b = append_known b.given b.waiting

abbrev pub whole_of : Blocks → Output
whole_of b = output (contents_of b) b.failures

-- A target was given all of this but the end, of at most 64 KiB, and failed as often.
pub record LacksEnd (whole new : Output) : Type 0 where
  pub missing : List ℕ
  pub short : length missing ≤ 65536
  pub given : whole.given ≡ append_known new.given missing
  pub failures : new.failures ≡ whole.failures

-- All of it was passed on, or one call of the target failed before the end.
abbrev pub HandsOn : (whole : Output) → Result (Unit {0}) IoFault → (new : Output) → Type 0
HandsOn whole (Ok u) new = new ≡ whole
HandsOn whole (Err e) new = LacksEnd (output whole.given (counted true whole.failures)) new

-- The same of what still waits after it.
abbrev pub PassesOn : (old : Blocks) → Result (Unit {0}) IoFault → (new : Blocks) → Type 0
PassesOn old (Ok u) new = (IsSome old.given → new ≡ blocks (contents_of old) old.failures [] old.writes) × (new.waiting ≡ []) × (new.failures ≡ old.failures) × (new.writes ≡ old.writes)
PassesOn old (Err e) new = (IsSome old.given → contents_of new ≡ contents_of old) × (new.failures ≡ counted true old.failures) × (new.writes ≡ old.writes)
