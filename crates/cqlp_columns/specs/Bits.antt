-- Bits in bytes.
use Rattle.std.specs.Prelude.{◌≡◌, ℕ, zero, suc, ◌+◌, ◌*◌, ◌/◌, ◌%◌, ◌^◌, ◌==◌, Bool, true, false, List, [], ◌∷◌, length}
use Rattle.std.specs.Ptr.{Ptr}

-- bits, how many there is room for, and where the bytes that have them begin in memory
pub record Bits : Type 0 where
  pub bits : List Bool
  pub room : ℕ
  pub at : Ptr

abbrev pub bits : List Bool → (room : ℕ) → (at : Ptr) → Bits
bits bs room at = record { bits = bs; room = room; at = at }

-- Two bits for each cell, whether it has a value and whether that has no bytes; for how many cells there is room, and where the bytes that have
-- the bits begin in memory.
pub record Marks : Type 0 where
  pub valid : List Bool
  pub empty : List Bool
  pub room : ℕ
  pub valid_at : Ptr
  pub empty_at : Ptr

abbrev pub marks : (valid empty : List Bool) → (room : ℕ) → (valid_at empty_at : Ptr) → Marks
marks valid empty room valid_at empty_at = record { valid = valid; empty = empty; room = room; valid_at = valid_at; empty_at = empty_at }

abbrev pub digit : Bool → ℕ
digit true = 1
digit false = 0

-- the number of which bits are the binary digits, the least first
abbrev pub number_of_bits : List Bool → ℕ
number_of_bits [] = 0
number_of_bits (b ∷ bs) = digit b + 2 * number_of_bits bs

-- the number of which bytes are the digits to the base 256, the least first
abbrev pub number_of_bytes : List ℕ → ℕ
number_of_bytes [] = 0
number_of_bytes (b ∷ bs) = b + 256 * number_of_bytes bs

-- how many bytes so many bits are
abbrev pub rounded : ℕ → ℕ
rounded n = (n + 7) / 8

-- The bytes have these bits, the first of them the least of the first byte, and zeros after the last: both spell one number, and there is
-- no byte more than the bits need.
pub record Spells (bs : List Bool) (bytes : List ℕ) : Type 0 where
  pub length : length bytes ≡ rounded (length bs)
  pub number : number_of_bytes bytes ≡ number_of_bits bs

-- ---- bits out of their number

abbrev pub worth : Bool → (at : ℕ) → ℕ
worth true at = 2 ^ at
worth false at = 0

-- the first binary digits of a number, this many
abbrev pub digits : (count : ℕ) → ℕ → List Bool
digits zero n = []
digits (suc k) n = (n % 2 == 1) ∷ digits k (n / 2)
