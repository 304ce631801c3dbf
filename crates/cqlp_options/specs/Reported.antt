-- Words of a command line as a mistake in it is reported: each in one line.
use Rattle.std.specs.Prelude.{ℕ, List, [], ◌∷◌, ◌++◌, ◌/◌, ◌%◌, if◌then◌else◌, codes, encode_utf8}
use Rattle.std.specs.Char.{digit_char, is_ascii_control}
use Rattle.std.specs.List.{flat_map}
use Rattle.std.specs.Str.{chars}

-- a character: one that does not print is written as two hexadecimal digits
abbrev pub reported_char : ℕ → List ℕ
reported_char c =
    if is_ascii_control c then codes "\\x" ++ digit_char (c / 16) ∷ digit_char (c % 16) ∷ []
    else encode_utf8 c

-- a word; where all its characters print it stays as it is
abbrev pub reported : List ℕ → List ℕ
reported word = flat_map reported_char (chars word)
