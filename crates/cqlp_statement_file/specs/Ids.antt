-- Ids of statements as cqlsh writes them.
use Rattle.std.specs.Prelude.{ℕ, Bool, not, ◌&&◌, ◌==◌, nat_le, List, length, drop, take, codes, Option, None, if◌then◌else◌}
use Rattle.std.specs.Result.{result_ok}
use Rattle.std.specs.Str.{bytes_eq}
use Rattle.hex.specs.Hex.{decode_of}

-- what is behind 0x, where that is before it
abbrev pub digits_of : List ℕ → List ℕ
digits_of text = if bytes_eq (take 2 text) (codes "0x") then drop 2 text else text

-- of 1 to 64 bytes
abbrev pub is_id : (digits : List ℕ) → Bool
is_id digits = not (length digits == 0) && nat_le (length digits) 128

abbrev pub id_in : (digits : List ℕ) → Option (List ℕ)
id_in digits = if is_id digits then result_ok (decode_of digits) else None

abbrev pub id_of : (text : List ℕ) → Option (List ℕ)
id_of text = id_in (digits_of text)
