-- Times of the calendar, in UTC, as 2026-11-29T10:15:30.25Z. ISO 8601, and RFC 3339, section 5.6.
use Rattle.std.specs.Prelude.{◌≡◌, ℕ, ◌+◌, ◌-◌, ◌*◌, ◌≤◌, ◌++◌, ◌⊎◌, ℤ, pos, true, List, [], ◌∷◌, Some, drop, slice_index, take}
use Rattle.jiff_core.specs.Date.{epoch_day}
use Rattle.jiff_core.specs.declared.civil.date.Date.{Date}
use Rattle.cqlp_options.specs.Seconds.{is_digit, with_places}

-- two digits from this index on are this number's
pub record HasTwo (text : List ℕ) (i n : ℕ) : Type 0 where
  pub tens : is_digit (slice_index text i) ≡ true
  pub ones : is_digit (slice_index text (i + 1)) ≡ true
  pub number : n ≡ (slice_index text i - 48) * 10 + (slice_index text (i + 1) - 48)

-- the date with these numbers
pub record IsOfNumbers (year : ℤ) (month day : ℕ) (date : Date) : Type 0 where
  pub year_is : date.year ≡ year
  pub month_is : date.month ≡ month
  pub day_is : date.day ≡ day

-- a date as 2026-11-29
pub record IsDate (text : List ℕ) (date : Date) : Type 0 where
  pub century : ℕ
  pub years : ℕ
  pub month : ℕ
  pub day : ℕ
  pub has_century : HasTwo text 0 century
  pub has_years : HasTwo text 2 years
  pub has_month : HasTwo text 5 month
  pub has_day : HasTwo text 8 day
  pub first_mark : slice_index text 4 ≡ 45
  pub second_mark : slice_index text 7 ≡ 45
  pub is_of : IsOfNumbers (pos (century * 100 + years)) month day date

-- a time of the day as T10:15:30, whatever follows, and the seconds from midnight on
pub record IsClock (clock : List ℕ) (seconds : ℕ) : Type 0 where
  pub hour : ℕ
  pub minute : ℕ
  pub second : ℕ
  pub has_hour : HasTwo clock 1 hour
  pub has_minute : HasTwo clock 4 minute
  pub has_second : HasTwo clock 7 second
  pub begins : slice_index clock 0 ≡ 84
  pub first_mark : slice_index clock 3 ≡ 58
  pub second_mark : slice_index clock 6 ≡ 58
  pub hour_within : hour ≤ 23
  pub minute_within : minute ≤ 59
  pub second_within : second ≤ 59
  pub seconds_are : seconds ≡ hour * 3600 + minute * 60 + second

-- Z, or these digits between a point and Z
abbrev pub IsBehindClock : (rest places : List ℕ) → Type 0
IsBehindClock rest places = ((rest ≡ 90 ∷ []) × (places ≡ [])) ⊎ (rest ≡ 46 ∷ (places ++ 90 ∷ []))

-- the nanoseconds since 1970-01-01 00:00:00 UTC of a time
pub record IsTimeAt (text : List ℕ) (n : ℕ) : Type 0 where
  pub date : Date
  pub days : ℕ
  pub seconds : ℕ
  pub places : List ℕ
  pub date_is : IsDate (take 10 text) date
  pub days_are : epoch_day date ≡ pos days
  pub clock : IsClock (drop 10 text) seconds
  pub behind : IsBehindClock (drop 19 text) places
  pub nanoseconds_are : with_places 9 (days * 86400 + seconds) places ≡ Some n
