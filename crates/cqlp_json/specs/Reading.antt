-- How a reader of JSON reads a string (section 7 of RFC 8259).
use Rattle.std.specs.Prelude.{ℕ, zero, suc, ◌+◌, ◌*◌, ◌==◌, ◌&&◌, ◌||◌, Bool, true, not, nat_lt, if◌then◌else◌, List, [], ◌∷◌, ◌++◌, Option, Some, None, option_and_then, encode_utf8}
use Rattle.hex.specs.Hex.{hex_digit_value}
use Rattle.cqlp_text.specs.Text.{prints}
use Rattle.cqlp_json.specs.Strings.{is_control}

-- where it is: before a character, after a backslash, or before the last digit of a character's number and this many others
pub data Place : Type 0 where
  Text Escape : Place
  Digits : (others number : ℕ) → Place

-- the character of a letter after a backslash
abbrev pub letter : ℕ → Option ℕ
letter c =
    if (c == 34) || (c == 92) || (c == 47) then Some c
    else if c == 98 then Some 8
    else if c == 116 then Some 9
    else if c == 110 then Some 10
    else if c == 102 then Some 12
    else if c == 114 then Some 13
    else None

-- with text before it
abbrev pub after : List ℕ → Option (List ℕ × List ℕ) → Option (List ℕ × List ℕ)
after text None = None
after text (Some r) = Some (text ++ r.0, r.1)

-- The string up to its last quote, and what comes after that; none where this is no string. Halves of characters beyond
-- U+FFFF, which it would have to join, are characters to it.
abbrev pub read : Place → List ℕ → Option (List ℕ × List ℕ)
read place [] = None
read Text (b ∷ rest) =
    if b == 34 then Some ([], rest)
    else if b == 92 then read Escape rest
    else if nat_lt b 32 then None
    else after (b ∷ []) (read Text rest)
read Escape (b ∷ rest) =
    if b == 117 then read (Digits 3 0) rest
    else option_and_then (λ c. after (c ∷ []) (read Text rest)) (letter b)
read (Digits zero number) (b ∷ rest) =
    option_and_then (λ d. after (encode_utf8 (16 * number + d)) (read Text rest)) (hex_digit_value b)
read (Digits (suc others) number) (b ∷ rest) =
    option_and_then (λ d. read (Digits others (16 * number + d)) rest) (hex_digit_value b)

-- what it reads after the first quote
abbrev pub read_string : List ℕ → Option (List ℕ × List ℕ)
read_string = read Text

-- no control characters are in these bytes, before which one is: none below 32, not 127, and no 194 with one from 128
-- to 159 after it
abbrev pub shows : (before : ℕ) → List ℕ → Bool
shows before [] = true
shows before (b ∷ rest) = prints b && not (is_control before b) && shows b rest
