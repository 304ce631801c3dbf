-- Bytes in memory.
use Rattle.std.specs.Prelude.{ℕ, List}
use Rattle.std.specs.Ptr.{Ptr}

-- bytes, how many there is room for, and where they begin in memory
pub record Bytes : Type 0 where
  pub items : List ℕ
  pub room : ℕ
  pub at : Ptr

abbrev pub bytes : List ℕ → (room : ℕ) → (at : Ptr) → Bytes
bytes items room at = record { items = items; room = room; at = at }
