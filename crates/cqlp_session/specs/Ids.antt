-- Bits in words of 64.
use Rattle.std.specs.Prelude.{◌≡◌, ◌≢◌, ℕ, ◌+◌, ◌-◌, ◌*◌, ◌/◌, ◌%◌, ◌^◌, ◌<◌, List, Option, None, is_none, if◌then◌else◌, length}
use Rattle.std.specs.Prelude.{slice_index, slice_index_or, replicate}
use Rattle.std.specs.Int.{bit_at}

-- the bit at a place
abbrev pub bit_under : List ℕ → ℕ → ℕ
bit_under words place = bit_at (slice_index words (place / 64)) (place % 64)

-- words of ones, with a bit for each of this many ids
abbrev pub all_ones : ℕ → List ℕ
all_ones len = replicate ((len + 63) / 64) (2 ^ 64 - 1)

-- the first bit that is set
pub record IsFirstBit (words : List ℕ) (place : ℕ) : Type 0 where
  pub within : place < 64 * length words
  pub is : bit_under words place ≡ 1
  pub below : (i : ℕ) → i < place → bit_under words i ≡ 0

-- no bit is set
abbrev pub NoBit : List ℕ → Type 0
NoBit words = (i : ℕ) → i < 64 * length words → bit_under words i ≡ 0

-- the words after one bit was written
pub record WithBit (old : List ℕ) (place bit : ℕ) (new : List ℕ) : Type 0 where
  pub size : length new ≡ length old
  pub is : bit_under new place ≡ bit
  pub others : (i : ℕ) → i ≢ place → bit_under new i ≡ bit_under old i

-- A bit is set for each id under which nothing is, and for those past the last.
pub record Marks {A : Type 0} (words : List ℕ) (slots : List (Option A)) : Type 0 where
  pub size : length words ≡ (length slots + 63) / 64
  pub bits : (i : ℕ) → i < 64 * length words
      → bit_under words i ≡ (if is_none (slice_index_or slots i None) then 1 else 0)
