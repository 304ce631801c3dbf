-- Texts between the quotes of a JSON string (section 7 of RFC 8259).
use Rattle.std.specs.Prelude.{ℕ, Bool, ◌&&◌, ◌||◌, ◌==◌, nat_le, nat_lt, not, if◌then◌else◌, List, [], ◌∷◌, ◌++◌, codes}
use Rattle.hex.specs.Hex.{encode_lower}

-- a byte that is written as it is, whatever comes after it; 194 begins the characters from U+0080 to U+00BF
abbrev pub is_plain : ℕ → Bool
is_plain b = nat_le 32 b && not (b == 34) && not (b == 92) && not (b == 127) && not (b == 194)

-- a character below U+0100, by its number
abbrev pub unicode : ℕ → List ℕ
unicode n = codes "\\u00" ++ encode_lower (n ∷ [])

-- a byte as it is written between quotes
abbrev pub escaped : ℕ → List ℕ
escaped b =
    if is_plain b || (b == 194) then b ∷ []
    else if b == 34 then codes "\\\""
    else if b == 92 then codes "\\\\"
    else if b == 8 then codes "\\b"
    else if b == 9 then codes "\\t"
    else if b == 10 then codes "\\n"
    else if b == 12 then codes "\\f"
    else if b == 13 then codes "\\r"
    else unicode b

-- the two bytes of a control character from U+0080 to U+009F; the second one is its number
abbrev pub is_control : ℕ → ℕ → Bool
is_control b c = (b == 194) && (nat_le 128 c && nat_lt c 160)

-- a text as it is written between quotes
abbrev pub escape : List ℕ → List ℕ
escape [] = []
escape (b ∷ []) = escaped b
escape (b ∷ c ∷ rest) = if is_control b c then unicode c ++ escape rest else escaped b ++ escape (c ∷ rest)

-- ---- the first escape

-- how many bytes it is for
abbrev pub front_len : List ℕ → ℕ
front_len [] = 0
front_len (b ∷ []) = 1
front_len (b ∷ c ∷ rest) = if is_control b c then 2 else 1

abbrev pub front : List ℕ → List ℕ
front [] = []
front (b ∷ []) = escaped b
front (b ∷ c ∷ rest) = if is_control b c then unicode c else escaped b
