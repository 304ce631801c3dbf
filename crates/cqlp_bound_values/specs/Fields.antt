-- Fields at the front of bytes (section 3 of native_protocol_v4.spec), and what comes behind them, which is nothing where a field is not there whole.
use Rattle.std.specs.Prelude.{ℕ, ◌==◌, nat_lt, Bool, List, length, take, drop, if◌then◌else◌}
use Rattle.std.specs.Int.{w16, w32, from_be_bytes}
use Rattle.std.specs.Str.Lossy.{utf8_valid_len}

-- numbers, or 0 where they are not there
abbrev pub short_at : List ℕ → ℕ
short_at b = if nat_lt (length b) 2 then 0 else from_be_bytes w16 (take 2 b)

abbrev pub int_at : List ℕ → ℕ
int_at b = if nat_lt (length b) 4 then 0 else from_be_bytes w32 (take 4 b)

-- what is there of a [string]
abbrev pub string_at : List ℕ → List ℕ
string_at b = take (short_at b) (drop 2 b)

abbrev pub behind_string : List ℕ → List ℕ
behind_string b = drop (short_at b) (drop 2 b)

abbrev pub behind_long_string : List ℕ → List ℕ
behind_long_string b = drop (int_at b) (drop 4 b)

-- no more bytes
abbrev pub is_end : List ℕ → Bool
is_end b = length b == 0

-- the longest front that is UTF-8
abbrev pub text_front : List ℕ → List ℕ
text_front b = take (utf8_valid_len b) b
