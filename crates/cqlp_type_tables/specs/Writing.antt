-- Bytes that are appended in memory.
use Rattle.std.specs.Prelude.{◌≡◌, ℕ, ◌++◌, List, Result, IfOk}
use Rattle.cqlp_note.specs.declared.refusal.NoMemory.{NoMemory}

-- Where memory was not refused, these bytes are after those before.
abbrev pub Appends : (old bytes : List ℕ) → Result Unit NoMemory → (new : List ℕ) → Type 0
Appends old bytes result new = IfOk result (λ x. new ≡ old ++ bytes)
