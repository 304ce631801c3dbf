-- Readers and writers of bytes, how often they were called and how often they failed.
use Rattle.std.specs.Io.KnownBytes.{ReadConsumes}
use Rattle.std.specs.Prelude.{◌≡◌, ℕ, ◌+◌, ◌-◌, ◌^◌, ◌<◌, Bool, true, false, ◌&&◌, ◌==◌, nat_lt, List, length, Result, Ok, Err, min}
use Rattle.std.specs.Prelude.{◌≤◌, Option, take, if◌then◌else◌}

-- how many calls failed, of which one more may be: the count stops at 2^64 - 1
abbrev pub counted : (failed : Bool) → ℕ → ℕ
counted failed n = if failed then min (n + 1) (2 ^ 64 - 1) else n

-- how many bytes in all, of which so many more were counted: the count stops at 2^64 - 1
abbrev pub counted_up : (more : ℕ) → ℕ → ℕ
counted_up more n = min (n + more) (2 ^ 64 - 1)

-- So many calls more were counted, unless the count has come to its end.
abbrev pub CountsUp : (calls old new : ℕ) → Type 0
CountsUp calls old new = old + calls < 2 ^ 64 → new ≡ old + calls

-- a write that failed: it has a fault, or took nothing of some bytes
abbrev pub took_none : {E : Type 0} → Result ℕ E → List ℕ → Bool
took_none (Ok n) bytes = (n == 0) && nat_lt 0 (length bytes)
took_none (Err e) bytes = true

-- a write that took all of its bytes
abbrev pub took_all : {E : Type 0} → Result ℕ E → List ℕ → Bool
took_all (Ok n) bytes = n == length bytes
took_all (Err e) bytes = false

-- what became of the first n bytes of a buffer that a read gave, or of nothing where it failed
abbrev pub BecameOf : {E : Type 0} → Result ℕ E → (buffer : List ℕ) → (Same : Type 0) → (P : List ℕ → Type 0) → Type 0
BecameOf (Ok n) buffer Same P = (n ≤ length buffer) × P (take n buffer)
BecameOf (Err e) buffer Same P = Same

-- A call of a reader into a buffer of this many bytes gave a piece, of which P holds, or it failed.
pub record ReadsPiece {E : Type 0} (most : ℕ) (old new : Option (List ℕ)) (result : Result ℕ E) (Same : Type 0)
    (P : List ℕ → Type 0) : Type 0 where
  pub buffer : List ℕ
  pub long : length buffer ≡ most
  pub bytes : ReadConsumes old new result buffer
  pub became : BecameOf result buffer Same P
