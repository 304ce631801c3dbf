-- The calendar and the definition of a date's text.
use Rattle.std.proofs.Common.{◌≡◌, ℕ, zero, suc, ◌+◌, ◌-◌, ◌<◌, ◌≤◌, ◌++◌, Bool, true, false, cond, nat_le, codes, take, ℤ, pos, negsuc, ◌-ℤ◌, ◌≤ℤ◌, unsigned_abs, inl, inr, refl, ap, ◌∙◌, arith}
use Rattle.std.proofs.lemmas.Bool.{cases_lt}
use Rattle.std.proofs.lemmas.Int.{by_lt_z}
use Rattle.std.proofs.lemmas.Bool.Decides.{nat_tests}
use Rattle.std.proofs.lemmas.List.{take-take}
use Rattle.std.proofs.lemmas.List.Sums.{sum_by-cons, sum_by-take-le}
use Rattle.std.specs.List.{count_by, range_with_len}
use Rattle.cqlp_text.specs.CellText.{digits, month_lengths, days_before, days_before_month, year_of, month_of, civil_text}
use Rattle.jiff_core.specs.declared.civil.date.Date.{Date}
use Rattle.jiff_core.specs.Calendar.{days_in_month, days_in_year, days_of_months, day_count}
use Rattle.jiff_core.specs.Date.{epoch_day}
use Rattle.jiff_core.proofs.CalendarLemmas.{days_of_months_all, days_of_months_more, days_from_civil-day_count, day_count-day_of_year, day_count-next_year, day_count-lt_year}
use Rattle.jiff_core.proofs.DateLemmas.{civil}
use Rattle.jiff_core.proofs.MarchLemmas.{day_count-early}
use Rattle.jiff_core.proofs.SignedLemmas.{signed_arith}

-- how many numbers from a on are below y, where the test says so
counted : (p : ℕ → Bool) (y a n : ℕ) → ((i : ℕ) → i < y → p i ≡ true) → ((i : ℕ) → y ≤ i → p i ≡ false) → y ≤ a + n → count_by p (range_with_len a n) ≡ y - a
counted p y a zero below above within = omega arith
counted p y a (suc n) below above within =
    let later = counted p y (a + 1) n below above (omega arith) in
    elim (cases_lt a y) [
      | inl lt ↦ sum_by-cons (λ i. cond (p i) 1 0) a (range_with_len (a + 1) n) ∙ rw (below a lt) (omega (arith, later))
      | inr le ↦ sum_by-cons (λ i. cond (p i) 1 0) a (range_with_len (a + 1) n) ∙ rw (above a le) (omega (arith, later))
    ]

-- ---- years

year_longer : (y : ℕ) → days_before (suc y) ≡ days_before y + days_in_year (pos y)
year_longer y = grind (arith, nat_tests)

day_count-year : (y : ℕ) → day_count (pos y) 1 1 ≡ 3_652_425 + days_before y
day_count-year zero = day_count-early (pos 0) 9999 1 1 refl (omega arith) (omega arith) (omega arith)
day_count-year (suc y) = omega (arith, signed_arith, day_count-next_year (pos y) (pos (suc y)) (omega (arith, signed_arith)) (omega (arith, signed_arith)), day_count-year y, year_longer y)

days_before_mono : (y later : ℕ) → y ≤ later → days_before y ≤ days_before later
days_before_mono y later h = omega arith

year_of_is : (day y : ℕ) → y ≤ 9999 → days_before y ≤ day → day < days_before (y + 1) → year_of day ≡ y
unfolding year_of
year_of_is day y small low high =
    counted (λ i. nat_le (days_before (i + 1)) day) y 0 9999
    (λ i lt. grind (arith, nat_tests, days_before_mono (i + 1) y (omega arith)))
    (λ i le. grind (arith, nat_tests, days_before_mono (y + 1) (i + 1) (omega arith)))
    (omega arith)
    ∙ omega arith

-- ---- months

months_alike : (y m : ℕ) → m < 13 → days_before_month y m ≡ days_of_months (pos y) m
unfolding days_of_months
months_alike y zero h = refl
months_alike y (suc zero) h = refl
months_alike y (suc (suc zero)) h = refl
months_alike y (suc (suc (suc zero))) h = refl
months_alike y (suc (suc (suc (suc zero)))) h = refl
months_alike y (suc (suc (suc (suc (suc zero))))) h = refl
months_alike y (suc (suc (suc (suc (suc (suc zero)))))) h = refl
months_alike y (suc (suc (suc (suc (suc (suc (suc zero))))))) h = refl
months_alike y (suc (suc (suc (suc (suc (suc (suc (suc zero)))))))) h = refl
months_alike y (suc (suc (suc (suc (suc (suc (suc (suc (suc zero))))))))) h = refl
months_alike y (suc (suc (suc (suc (suc (suc (suc (suc (suc (suc zero)))))))))) h = refl
months_alike y (suc (suc (suc (suc (suc (suc (suc (suc (suc (suc (suc zero))))))))))) h = refl
months_alike y (suc (suc (suc (suc (suc (suc (suc (suc (suc (suc (suc (suc zero)))))))))))) h = refl
months_alike y (suc (suc (suc (suc (suc (suc (suc (suc (suc (suc (suc (suc (suc m))))))))))))) h = absurd (omega arith)

days_before_month_mono : (y m later : ℕ) → m ≤ later → days_before_month y m ≤ days_before_month y later
days_before_month_mono y m later h = rw take-take at (sum_by-take-le (λ n. n) (take later (month_lengths y)) m)

month_of_is : (y day m : ℕ) → m < 12 → days_before_month y m ≤ day → day < days_before_month y (m + 1) → month_of y day ≡ m
unfolding month_of
month_of_is y day m small low high =
    counted (λ i. nat_le (days_before_month y (i + 1)) day) m 0 11
    (λ i lt. grind (arith, nat_tests, days_before_month_mono y (i + 1) m (omega arith)))
    (λ i le. grind (arith, nat_tests, days_before_month_mono y (m + 1) (i + 1) (omega arith)))
    (omega arith)
    ∙ omega arith

-- ---- dates

-- what a date says of its day, counted from the first of January of the year 0
pub record Dated (day y m : ℕ) (d : Date) : Type 0 where
  pub year : d.year ≡ pos y
  pub month : d.month ≡ m + 1
  pub small : y ≤ 9999
  pub early : m < 12
  pub first : 1 ≤ d.day
  pub inside : d.day ≤ days_in_month d.year d.month
  pub place : day + 1 ≡ days_before y + days_before_month y m + d.day

civil_parts : (day y m : ℕ) (d : Date) → Dated day y m d → civil_text day ≡ digits 4 (unsigned_abs d.year) ++ (codes "-" ++ (digits 2 d.month ++ (codes "-" ++ digits 2 d.day)))
civil_parts day y m d h =
    let month_ends = days_of_months_more d.year d.month (omega (arith, h.month)) in
    let starts : days_before_month y m ≡ days_of_months d.year (d.month - 1) = rw (h.year, h.month) (months_alike y m (omega (arith, h.early)) ∙ ap (days_of_months (pos y)) (omega arith)) in
    let ends : days_before_month y (m + 1) ≡ days_of_months d.year d.month = rw (h.year, h.month) (months_alike y (m + 1) (omega (arith, h.early))) in
    let year_ends : days_before_month y (m + 1) ≤ days_in_year (pos y) = omega (arith, days_before_month_mono y (m + 1) 12 (omega (arith, h.early)), months_alike y 12 (omega arith), days_of_months_all (pos y)) in
    let y_is : year_of day ≡ y = year_of_is day y h.small (omega (arith, h.place, h.first)) (omega (arith, h.place, h.inside, month_ends, starts, ends, year_ends, year_longer y)) in
    let m_is : month_of y (day - days_before y) ≡ m = month_of_is y (day - days_before y) m h.early (omega (arith, h.place, h.first)) (omega (arith, h.place, h.inside, month_ends, starts, ends)) in
    let d_is : day - days_before y - days_before_month y m + 1 ≡ d.day = omega (arith, h.place, h.first) in
    rw (y_is, m_is, d_is, h.year, h.month) refl

counted_days : (day : ℕ) (d : Date) → epoch_day d ≡ pos day -ℤ pos 719_528 → day_count d.year d.month d.day ≡ 3_652_425 + day
counted_days day d is = omega (arith, signed_arith, days_from_civil-day_count d.year d.month d.day)

not_negative : (z : ℤ) → pos 0 ≤ℤ z → z ≡ pos (unsigned_abs z)
not_negative (pos n) h = refl
not_negative (negsuc n) h = absurd (omega (arith, signed_arith))

-- no day from the year 0 on is in a year before it
year_is : (day : ℕ) (d : Date) → epoch_day d ≡ pos day -ℤ pos 719_528 → d.year ≡ pos (unsigned_abs d.year)
year_is day d is =
    by_lt_z d.year (pos 0)
    (λ before. absurd (omega (arith, day_count-lt_year d.year d.month d.day (pos 0) 1 1 (civil d) (omega arith) before, counted_days day d is, day_count-year 0)))
    (λ from. not_negative d.year from)

dated : (day : ℕ) (d : Date) → epoch_day d ≡ pos day -ℤ pos 719_528 → Dated day (unsigned_abs d.year) (d.month - 1) d
dated day d is =
    let y = unsigned_abs d.year in
    let e : d.year ≡ pos y = year_is day d is in
    let real = civil d in
    let place = rw e at (day_count-day_of_year d.year d.month d.day real.2.0) in
    let count = rw e at (counted_days day d is) in
    record {
      year = e;
      month = omega (arith, real.1.0);
      small = omega (arith, signed_arith, real.0);
      early = omega (arith, real.1.1, real.1.0);
      first = real.2.0;
      inside = real.2.1;
      place = omega (arith, place, count, day_count-year y, months_alike y (d.month - 1) (omega (arith, real.1.1)));
    }

-- the text of a day by its date
pub civil_of : (day : ℕ) (d : Date) (year month rest : ℕ) → epoch_day d ≡ pos day -ℤ pos 719_528 → year ≡ unsigned_abs d.year → month ≡ d.month → rest ≡ d.day → civil_text day ≡ digits 4 year ++ (codes "-" ++ (digits 2 month ++ (codes "-" ++ digits 2 rest)))
civil_of day d year month rest is year_is month_is rest_is = rw (year_is, month_is, rest_is) (civil_parts day (unsigned_abs d.year) (d.month - 1) d (dated day d is))
