-- Bytes that are put into a room of the caller's.
use Rattle.std.specs.Prelude.{◌≡◌, ℕ, ◌++◌, Bool, true, false, nat_lt, List, length, drop}
use Rattle.cqlp_c.specs.declared.numbers.TheConstants as numbers

-- The bytes are at the front of the room, and what lies after them is as it was; where the room is too short for them,
-- all of it is as it was, and the code says so.
abbrev pub PutsWhere : (short : Bool) → (bytes : List ℕ) → (code : ℕ) → (before after : List ℕ) → Type 0
PutsWhere true bytes code before after = (code ≡ numbers.NO_ROOM) × (after ≡ before)
PutsWhere false bytes code before after = (code ≡ numbers.DONE) × (after ≡ bytes ++ drop (length bytes) before)

-- Bytes are put into a room, if it has room for them, and in both cases it gets how many they are.
abbrev pub PutsBytes : (bytes : List ℕ) → (code : ℕ) → (before after : List ℕ) → (written : ℕ) → Type 0
PutsBytes bytes code before after written =
    PutsWhere (nat_lt (length before) (length bytes)) bytes code before after × (written ≡ length bytes)
