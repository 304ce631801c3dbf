-- Times that lie apart, as text.
use Rattle.std.specs.Prelude.{ℕ, ◌+◌, ◌/◌, ◌%◌, ◌^◌, ◌==◌, Bool, true, false, List, [], ◌∷◌, ◌++◌, codes, decimal, Option, Some, None, if◌then◌else◌}
use Rattle.cqlp_text.specs.CellText.{date_text, digits}
use Rattle.cqlp_capture_exchanges.specs.declared.span.Span.{Span}
use Rattle.cqlp_capture_exchanges.specs.declared.span.Unit.{Unit}
use Rattle.cqlp_capture_exchanges.specs.declared.span.Unit.TheVariants as unit

-- texts one after the other
abbrev pub joined : List (List ℕ) → List ℕ
joined [] = []
joined (text ∷ texts) = text ++ joined texts

-- a unit in nanoseconds, and how many digits its microseconds are
abbrev pub nanoseconds_in : Unit → ℕ
nanoseconds_in unit.Second = 1_000_000_000
nanoseconds_in unit.Millisecond = 1_000_000

abbrev pub places_of : Unit → ℕ
places_of unit.Second = 6
places_of unit.Millisecond = 3

-- nanoseconds to the microsecond where that is exact, and to the nanosecond else
abbrev pub fraction : (places n : ℕ) → List ℕ
fraction places n = if n % 1_000 == 0 then digits places (n / 1_000) else digits (places + 3) n

abbrev pub sign : (is_before : Bool) → List ℕ
sign true = codes "-"
sign false = []

abbrev pub span_text : Unit → Span → List ℕ
span_text u s =
    joined (sign s.is_before ∷ decimal (s.nanoseconds / nanoseconds_in u) ∷ codes "."
    ∷ fraction (places_of u) (s.nanoseconds % nanoseconds_in u) ∷ [])

-- where one of the two times is not known
abbrev pub time_text : Unit → Option Span → List ℕ
time_text u None = codes "-"
time_text u (Some s) = span_text u s

-- ---- nanoseconds since 1970-01-01 00:00:00 UTC as a date and a time of day (ISO 8601)

-- the time of day in a second
abbrev pub clock_text : (second : ℕ) → List ℕ
clock_text s =
    joined (digits 2 (s / 3_600 % 24) ∷ codes ":" ∷ digits 2 (s / 60 % 60) ∷ codes ":" ∷ digits 2 (s % 60) ∷ [])

abbrev pub date_and_time : ℕ → List ℕ
date_and_time n =
    joined (date_text (2 ^ 31 + n / 86_400_000_000_000) ∷ codes "T" ∷ clock_text (n / 1_000_000_000) ∷ codes "."
    ∷ fraction 6 (n % 1_000_000_000) ∷ codes "Z" ∷ [])

-- where it is known
abbrev pub utc_text : Option ℕ → List ℕ
utc_text None = codes "-"
utc_text (Some n) = date_and_time n
