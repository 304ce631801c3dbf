-- A content out of pieces.
use Rattle.std.specs.Prelude.{ℕ, List}
use Rattle.std.specs.Ptr.{Ptr}

-- the bytes so far, the greatest number of them that there can be, and where their memory begins
pub record Gathered : Type 0 where
  pub items : List ℕ
  pub room : ℕ
  pub buffer : Ptr
