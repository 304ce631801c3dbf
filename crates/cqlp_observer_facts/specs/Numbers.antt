-- Numbers (section 3 of native_protocol_v4.spec): the highest byte comes first.
use Rattle.std.specs.Prelude.{ℕ, ℤ, List, take}
use Rattle.std.specs.Int.{w8, w16, w32, from_be_bytes}
use Rattle.cqlp_note.specs.Field.{signed}

abbrev pub byte : List ℕ → ℕ
byte b = from_be_bytes w8 (take 1 b)

abbrev pub short : List ℕ → ℕ
short b = from_be_bytes w16 (take 2 b)

-- as a number without a sign
abbrev pub int : List ℕ → ℕ
int b = from_be_bytes w32 (take 4 b)

-- with its sign
abbrev pub signed_int : List ℕ → ℤ
signed_int b = signed (int b)
