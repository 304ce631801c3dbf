-- The text of single values.
use Rattle.std.specs.Prelude.{ℕ, Bool, ◌&&◌, ◌==◌, nat_le, not, if◌then◌else◌, List, [], ◌∷◌, ◌++◌, map, codes, decimal}
use Rattle.std.specs.List.{flat_map, join_with_byte}
use Rattle.cqlp_note.specs.declared.prim.Address.{Address}
use Rattle.cqlp_note.specs.declared.prim.Address.TheVariants as address
use Rattle.hex.specs.Hex.{encode_lower}

abbrev pub hex_text : List ℕ → List ℕ
hex_text bytes = codes "0x" ++ encode_lower bytes

-- a byte that is written as it is between quotes
abbrev pub is_plain : ℕ → Bool
is_plain b = nat_le 32 b && not (b == 34) && not (b == 92) && not (b == 127)

-- a byte as it is written between quotes
abbrev pub escaped : ℕ → List ℕ
escaped b =
    if is_plain b then b ∷ []
    else if b == 34 then codes "\\\""
    else if b == 92 then codes "\\\\"
    else codes "\\x" ++ encode_lower (b ∷ [])

-- a text between quotes, as it is
abbrev pub between_quotes : List ℕ → List ℕ
between_quotes text = codes "\"" ++ text ++ codes "\""

abbrev pub quoted : List ℕ → List ℕ
quoted text = codes "\"" ++ flat_map escaped text ++ codes "\""

-- a byte that prints: 127 and those below 32 do not
abbrev pub prints : ℕ → Bool
prints b = nat_le 32 b && not (b == 127)

-- a byte as it is written in a line: one that does not print is escaped as between quotes
abbrev pub printed : ℕ → List ℕ
printed b = if prints b then b ∷ [] else escaped b

-- a text that someone else wrote, in one line; where all its bytes print it is as it is
abbrev pub in_one_line : List ℕ → List ℕ
in_one_line text = flat_map printed text

-- the bytes two by two
abbrev pub pairs : List ℕ → List (List ℕ)
pairs (a ∷ b ∷ rest) = (a ∷ b ∷ []) ∷ pairs rest
pairs _ = []

-- four decimal numbers with dots, or eight groups of four digits with colons
abbrev pub address_text : Address → List ℕ
address_text (address.V4 bytes) = join_with_byte 46 (map decimal bytes)
address_text (address.V6 bytes) = join_with_byte 58 (map encode_lower (pairs bytes))
