-- Texts of a peer, between quotes, as a terminal may show them.
use Rattle.std.specs.Prelude.{ℕ, Bool, ◌||◌, ◌==◌, List, [], ◌∷◌, ◌++◌, codes, if◌then◌else◌}
use Rattle.std.specs.Char.{encode_utf8}
use Rattle.std.specs.Int.{is_in_range}
use Rattle.std.specs.List.{flat_map}
use Rattle.std.specs.Str.{chars}
use Rattle.hex.specs.Hex.{encode_lower}

-- What a terminal may obey, or what changes the order of a line: controls (U+0000 to U+001F, U+007F to U+009F), the separators of lines and
-- paragraphs (U+2028, U+2029), and marks of direction (U+061C, U+200E, U+200F, U+202A to U+202E, U+2066 to U+2069).
abbrev pub is_hidden : (c : ℕ) → Bool
is_hidden c =
    is_in_range 0x0000 0x001F c || is_in_range 0x007F 0x009F c || c == 0x061C || is_in_range 0x200E 0x200F c
    || is_in_range 0x2028 0x202E c || is_in_range 0x2066 0x2069 c

abbrev pub escape : (byte : ℕ) → List ℕ
escape b = codes "\\x" ++ encode_lower (b ∷ [])

-- A character as it is written between quotes. Of one that is hidden, each byte is escaped.
abbrev pub shown : (c : ℕ) → List ℕ
shown c =
    if is_hidden c then flat_map escape (encode_utf8 c)
    else if c == 34 then codes "\\\""
    else if c == 92 then codes "\\\\"
    else encode_utf8 c

-- As it is written between the quotes of a field of CSV (section 2 of RFC 4180), where a quote is doubled.
abbrev pub shown_in_fields : (c : ℕ) → List ℕ
shown_in_fields c = if c == 34 then codes "\"\"" else shown c

-- A byte that is a character, and is not escaped.
abbrev pub is_plain : (byte : ℕ) → Bool
is_plain b = is_in_range 0x20 0x21 b || is_in_range 0x23 0x5B b || is_in_range 0x5D 0x7E b

abbrev pub shown_text : List ℕ → List ℕ
shown_text text = flat_map shown (chars text)

abbrev pub shown_in_field : List ℕ → List ℕ
shown_in_field text = flat_map shown_in_fields (chars text)
