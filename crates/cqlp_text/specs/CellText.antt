-- The text of a scalar cell.
use Rattle.std.specs.Prelude.{ℕ, zero, suc, ◌+◌, ◌-◌, ◌*◌, ◌/◌, ◌%◌, ◌^◌, ◌==◌, ℤ, pos, negsuc, ◌-ℤ◌, Bool, true}
use Rattle.std.specs.Prelude.{false, ◌&&◌, ◌||◌, not, nat_lt, nat_le, if◌then◌else◌, List, [], ◌∷◌, ◌++◌, length}
use Rattle.std.specs.Prelude.{take, codes, slice_index, replicate, sum, count_by}
use Rattle.std.specs.Fmt.{signed_decimal}
use Rattle.std.specs.Int.{w128, from_be_bytes, cast_signed}
use Rattle.std.specs.List.{range_with_len}
use Rattle.cqlp_kind.specs.Scalars.{ScalarValue}
use Rattle.cqlp_kind.specs.Scalars as scalar
use Rattle.cqlp_text.specs.Text.{hex_text, quoted, address_text}
use Rattle.uuid.specs.Text.{hyphenated_text, lower}

-- ---- numbers

-- the byte that goes before a two's complement and leaves its number
abbrev pub sign_byte : List ℕ → ℕ
sign_byte bytes = if nat_le 128 (slice_index bytes 0) then 255 else 0

-- at most 16 bytes of a two's complement, with their sign extended to 16
abbrev pub extended : List ℕ → List ℕ
extended bytes = replicate (16 - length bytes) (sign_byte bytes) ++ bytes

-- the number that at most 16 bytes spell as a two's complement, the highest byte first
abbrev pub complement_of : List ℕ → ℤ
complement_of bytes = cast_signed w128 (from_be_bytes w128 (extended bytes))

abbrev pub varint_text : List ℕ → List ℕ
varint_text bytes = if nat_le (length bytes) 16 then signed_decimal (complement_of bytes) else hex_text bytes

abbrev pub decimal_text : (scale : ℤ) → (unscaled : List ℕ) → List ℕ
decimal_text scale unscaled = varint_text unscaled ++ (codes "e" ++ signed_decimal (pos 0 -ℤ scale))

-- this many digits of a number, with leading zeros
abbrev pub digits : ℕ → ℕ → List ℕ
digits zero n = []
digits (suc k) n = digits k (n / 10) ++ (48 + n % 10) ∷ []

-- ---- times and dates

-- a time of day in nanoseconds; a negative number, which no cell has, as a number
abbrev pub time_text : ℤ → List ℕ
time_text (pos n) =
    digits 2 (n / 3_600_000_000_000) ++ (codes ":"
    ++ (digits 2 (n / 60_000_000_000 % 60) ++ (codes ":"
    ++ (digits 2 (n / 1_000_000_000 % 60) ++ (codes "."
    ++ digits 9 (n % 1_000_000_000))))))
time_text (negsuc n) = signed_decimal (negsuc n)

-- every fourth year, but of the hundreds only every fourth
abbrev pub is_leap : ℕ → Bool
is_leap y = (y % 4 == 0) && (not (y % 100 == 0) || (y % 400 == 0))

abbrev pub month_lengths : ℕ → List ℕ
month_lengths y = 31 ∷ (if is_leap y then 29 else 28) ∷ 31 ∷ 30 ∷ 31 ∷ 30 ∷ 31 ∷ 31 ∷ 30 ∷ 31 ∷ 30 ∷ 31 ∷ []

-- the days before a year, from the first of January of the year 0
abbrev pub days_before : (year : ℕ) → ℕ
days_before y = 365 * y + ((y + 3) / 4 + (y + 399) / 400 - (y + 99) / 100)

-- the days before a month of a year, from January as 0
abbrev pub days_before_month : (year month : ℕ) → ℕ
days_before_month y m = sum (take m (month_lengths y))

-- how many years are over by a day from the first of January of the year 0, up to the year 9999
unfoldable pub year_of : ℕ → ℕ
year_of day = count_by (λ y. nat_le (days_before (y + 1)) day) (range_with_len 0 9999)

-- how many months are over by a day of a year
unfoldable pub month_of : (year day : ℕ) → ℕ
month_of y day = count_by (λ m. nat_le (days_before_month y (m + 1)) day) (range_with_len 0 11)

abbrev pub civil_text : (day : ℕ) → List ℕ
civil_text day =
    let y = year_of day in
    let rest = day - days_before y in
    let m = month_of y rest in
    digits 4 y ++ (codes "-" ++ (digits 2 (m + 1) ++ (codes "-" ++ digits 2 (rest - days_before_month y m + 1))))

-- the days from the first of January of the year 0 to the day that is 0 in a cell, and from there to 1970
abbrev pub first_day : ℕ
first_day = 2 ^ 31 - 719_528

-- a day of the years 0 to 9999; or how many days it is from the first of January 1970
abbrev pub date_text : ℕ → List ℕ
date_text n =
    if nat_le first_day n && nat_lt n (first_day + days_before 10_000)
    then civil_text (n - first_day)
    else codes "day " ++ signed_decimal (pos n -ℤ pos (2 ^ 31))

-- ---- cells

abbrev pub boolean_text : Bool → List ℕ
boolean_text true = codes "true"
boolean_text false = codes "false"

abbrev pub cell_text : ScalarValue → List ℕ
cell_text (scalar.Custom bytes) = hex_text bytes
cell_text (scalar.Blob bytes) = hex_text bytes
cell_text (scalar.Raw bytes) = hex_text bytes
cell_text (scalar.Double bytes) = hex_text bytes
cell_text (scalar.Float bytes) = hex_text bytes
cell_text (scalar.Varint bytes) = varint_text bytes
cell_text (scalar.Decimal scale unscaled) = decimal_text scale unscaled
cell_text (scalar.Uuid bytes) = hyphenated_text lower bytes
cell_text (scalar.Timeuuid bytes) = hyphenated_text lower bytes
cell_text (scalar.Ascii text) = quoted text
cell_text (scalar.Varchar text) = quoted text
cell_text (scalar.Bigint z) = signed_decimal z
cell_text (scalar.Counter z) = signed_decimal z
cell_text (scalar.Timestamp z) = signed_decimal z
cell_text (scalar.Int z) = signed_decimal z
cell_text (scalar.Smallint z) = signed_decimal z
cell_text (scalar.Tinyint z) = signed_decimal z
cell_text (scalar.Time z) = time_text z
cell_text (scalar.Date n) = date_text n
cell_text (scalar.Boolean b) = boolean_text b
cell_text (scalar.Inet a) = address_text a
