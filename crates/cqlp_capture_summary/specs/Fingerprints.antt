-- Fingerprints: what statements have in common that differ in their literals alone. A statement is read byte by byte, by a machine of a mode and the bytes
-- that are written so far.
--
-- Written as `?`: texts ('..' with '' for a quote, and $$..$$), numbers with sign, point and exponent, durations, blobs (0x..) and uuids. Literals with
-- commas between them are written as `?+`, and a pair of literals with a colon (in a map) as one. White space and comments are one space. All else is
-- written as it is: words in their case, names in double quotes, `?` and `:name`, and the constants true, false, null, NaN and Infinity.
use Rattle.std.specs.Prelude.{ℕ, ◌+◌, ◌-◌, ◌==◌, Bool, false, ◌&&◌, ◌||◌, nat_le, nat_lt, List, [], ◌∷◌, ◌++◌, length, slice_index_or, take, if◌then◌else◌}
use Rattle.std.specs.Int.{is_in_range}
use Rattle.cqlp_capture_summary.specs.declared.class.Class.{Class}
use Rattle.cqlp_capture_summary.specs.declared.class.Class.TheVariants as class
use Rattle.cqlp_capture_summary.specs.declared.mode.Mode.{Mode}
use Rattle.cqlp_capture_summary.specs.declared.mode.Mode.TheVariants as mode
use Rattle.cqlp_capture_summary.specs.Names.{Name, name}

-- ---- bytes

abbrev pub is_space : ℕ → Bool
is_space b = b == 32 || is_in_range 9 13 b

abbrev pub is_digit : ℕ → Bool
is_digit b = is_in_range 48 57 b

-- what a word is made of, beside digits: letters, an underscore, and all that is not ASCII
abbrev pub is_letter : ℕ → Bool
is_letter b = is_in_range 65 90 b || is_in_range 97 122 b || b == 95 || nat_le 128 b

abbrev pub is_hex : ℕ → Bool
is_hex b = is_digit b || is_in_range 65 70 b || is_in_range 97 102 b

abbrev pub class_of : ℕ → Class
class_of b =
    if is_space b then class.Space
    else if is_digit b then class.Digit
    else if is_letter b then class.Letter
    else if b == 39 then class.Quote
    else if b == 34 then class.DoubleQuote
    else if b == 63 then class.QuestionMark
    else if b == 45 then class.Dash
    else if b == 47 then class.Slash
    else if b == 42 then class.Star
    else if b == 36 then class.Dollar
    else class.Other

-- how many hexadecimal digits a word is made of, with this byte; 9 where it is no more the beginning of a uuid
abbrev pub hex_with : (b count : ℕ) → ℕ
hex_with b count = if is_hex b && nat_lt count 8 then count + 1 else 9

-- ---- what is written

abbrev pub written : (b : ℕ) → Name → Name
written b w = if nat_lt (length w.bytes) 256 then name (w.bytes ++ b ∷ []) w.is_whole else name w.bytes false

-- without the last bytes
abbrev pub cut : (count : ℕ) → Name → Name
cut n w = name (take (length w.bytes - n) w.bytes) w.is_whole

-- the last byte but so many less one, or 0
abbrev pub back : (count : ℕ) → Name → ℕ
back n w = if nat_le n (length w.bytes) then slice_index_or w.bytes (length w.bytes - n) 0 else 0

-- one space, behind something else
abbrev pub spaced : Name → Name
spaced w = if back 1 w == 32 || back 1 w == 0 then w else written 32 w

abbrev pub behind_space : (count : ℕ) → Name → ℕ
behind_space n w = if back n w == 32 then n + 1 else n

-- where a comma or a colon is, in front of a literal, and where the literal before it ends
abbrev pub separator_at : Name → ℕ
separator_at w = behind_space 1 w

abbrev pub before_separator : Name → ℕ
before_separator w = behind_space (separator_at w + 1) w

-- `?+`
abbrev pub is_list_at : (count : ℕ) → Name → Bool
is_list_at n w = back n w == 43 && back (n + 1) w == 63

-- a literal behind another one and a comma
abbrev pub listed : Name → Name
listed w = if is_list_at (before_separator w) w then cut (before_separator w - 1) w else written 43 (cut (before_separator w - 1) w)

abbrev pub joined : (separator : ℕ) → Name → Name
joined b w = if b == 44 then listed w else if b == 58 then cut (before_separator w - 1) w else written 63 w

abbrev pub with_literal : Name → Name
with_literal w =
    if back (before_separator w) w == 63 || is_list_at (before_separator w) w then joined (back (separator_at w) w) w else written 63 w

-- A sign belongs to a number where nothing is in front of it, or an operator or an opening bracket.
abbrev pub is_opening : ℕ → Bool
is_opening b =
    b == 0 || b == 40 || b == 42 || b == 43 || b == 44 || b == 45 || b == 47 || b == 58 || is_in_range 60 62 b || b == 37 || b == 91 || b == 123

abbrev pub has_sign : Name → Bool
has_sign w = (back 1 w == 43 || back 1 w == 45) && is_opening (back (behind_space 2 w) w)

abbrev pub without_sign : Name → Name
without_sign w = if has_sign w then cut 1 w else w

-- ---- a byte behind a whole word, number, text or comment

-- a comment begins with this byte, if this other one is in front of it
abbrev pub mode_at_comment : (before : ℕ) → Mode → Name → Mode
mode_at_comment before m w = if back 1 w == before then m else mode.Between

abbrev pub text_at_comment : (before b : ℕ) → Name → Name
text_at_comment before b w = if back 1 w == before then spaced (cut 1 w) else written b w

abbrev pub mode_at : Class → (b : ℕ) → Name → Mode
mode_at class.Space b w = mode.Between
mode_at class.Digit b w = mode.Number 1
mode_at class.Letter b w = mode.Word (hex_with b 0)
mode_at class.Quote b w = mode.Text
mode_at class.DoubleQuote b w = mode.Name
mode_at class.QuestionMark b w = mode.Between
mode_at class.Dash b w = mode_at_comment 45 mode.Line w
mode_at class.Slash b w = mode_at_comment 47 mode.Line w
mode_at class.Star b w = mode_at_comment 47 mode.Block w
mode_at class.Dollar b w = mode_at_comment 36 mode.Dollars w
mode_at class.Other b w = mode.Between

abbrev pub text_at : Class → (b : ℕ) → Name → Name
text_at class.Space b w = spaced w
text_at class.Digit b w = with_literal (without_sign w)
text_at class.Letter b w = written b w
text_at class.Quote b w = with_literal w
text_at class.DoubleQuote b w = written b w
text_at class.QuestionMark b w = with_literal w
text_at class.Dash b w = text_at_comment 45 b w
text_at class.Slash b w = text_at_comment 47 b w
text_at class.Star b w = text_at_comment 47 b w
text_at class.Dollar b w = if back 1 w == 36 then with_literal (cut 1 w) else written b w
text_at class.Other b w = written b w

-- ---- a byte in each mode

abbrev pub is_word : ℕ → Bool
is_word b = is_digit b || is_letter b

-- a dash behind eight hexadecimal digits
abbrev pub is_uuid : (b count : ℕ) → Bool
is_uuid b count = b == 45 && count == 8

abbrev pub in_number : (b count : ℕ) → Mode
in_number b count = if b == 69 || b == 101 then mode.Exponent (hex_with b count) else mode.Number (hex_with b count)

abbrev pub is_number : ℕ → Bool
is_number b = is_word b || b == 46

-- in texts and comments, of which nothing more is written

abbrev pub in_text : (b : ℕ) → Mode
in_text b = if b == 39 then mode.TextEnd else mode.Text

abbrev pub in_dollars : (b : ℕ) → Mode
in_dollars b = if b == 36 then mode.DollarsEnd else mode.Dollars

abbrev pub behind_dollar : (b : ℕ) → Mode
behind_dollar b = if b == 36 then mode.Between else mode.Dollars

abbrev pub in_line : (b : ℕ) → Mode
in_line b = if b == 10 || b == 13 then mode.Between else mode.Line

abbrev pub in_block : (b : ℕ) → Mode
in_block b = if b == 42 then mode.BlockEnd else mode.Block

abbrev pub behind_star : (b : ℕ) → Mode
behind_star b = if b == 47 then mode.Between else if b == 42 then mode.BlockEnd else mode.Block

abbrev pub mode_after : Mode → (b : ℕ) → Name → Mode
mode_after mode.Between b w = mode_at (class_of b) b w
mode_after (mode.Word n) b w = if is_word b then mode.Word (hex_with b n) else if is_uuid b n then mode.Uuid else mode_at (class_of b) b w
mode_after (mode.Number n) b w = if is_number b then in_number b n else if is_uuid b n then mode.Uuid else mode_at (class_of b) b w
mode_after (mode.Exponent n) b w =
    if is_number b then in_number b n else if is_uuid b n then mode.Uuid else if b == 45 || b == 43 then mode.Number 9 else mode_at (class_of b) b w
mode_after mode.Uuid b w = if is_hex b || b == 45 then mode.Uuid else mode_at (class_of b) b w
mode_after mode.Text b w = in_text b
mode_after mode.TextEnd b w = if b == 39 then mode.Text else mode_at (class_of b) b w
mode_after mode.Name b w = if b == 34 then mode.Between else mode.Name
mode_after mode.Dollars b w = in_dollars b
mode_after mode.DollarsEnd b w = behind_dollar b
mode_after mode.Line b w = in_line b
mode_after mode.Block b w = in_block b
mode_after mode.BlockEnd b w = behind_star b

abbrev pub text_after : Mode → (b : ℕ) → Name → Name
text_after mode.Between b w = text_at (class_of b) b w
text_after (mode.Word n) b w = if is_word b then written b w else if is_uuid b n then with_literal (cut 8 w) else text_at (class_of b) b w
text_after (mode.Number n) b w = if is_number b then w else if is_uuid b n then w else text_at (class_of b) b w
text_after (mode.Exponent n) b w =
    if is_number b then w else if is_uuid b n then w else if b == 45 || b == 43 then w else text_at (class_of b) b w
text_after mode.Uuid b w = if is_hex b || b == 45 then w else text_at (class_of b) b w
text_after mode.Text b w = w
text_after mode.TextEnd b w = if b == 39 then w else text_at (class_of b) b w
text_after mode.Name b w = written b w
text_after mode.Dollars b w = w
text_after mode.DollarsEnd b w = w
text_after mode.Line b w = w
text_after mode.Block b w = w
text_after mode.BlockEnd b w = w

-- ---- a statement

abbrev pub read_from : Mode → List ℕ → Name → Name
read_from m [] w = w
read_from m (b ∷ bs) w = read_from (mode_after m b w) bs (text_after m b w)

-- no space at the end
abbrev pub trimmed : Name → Name
trimmed w = if back 1 w == 32 then cut 1 w else w

-- At most 256 bytes are written. What is not all of a statement has no whole fingerprint.
abbrev pub fingerprint_of : List ℕ → (is_whole : Bool) → Name
fingerprint_of bytes is_whole = trimmed (read_from mode.Between bytes (name [] is_whole))
