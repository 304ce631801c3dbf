-- Requests, counted by the interval of time in which they were over.
--
-- An interval has so many seconds, at least one, and begins at a multiple of that since 1970-01-01 00:00:00 UTC. A request counts in the interval that
-- is open, unless it was over in a later one. One of which it is not known when it was over counts in the one that is open.
use Rattle.std.specs.Prelude.{ℕ, ◌+◌, ◌*◌, ◌/◌, ◌%◌, ◌^◌, ◌==◌, ◌||◌, Bool, true, false, nat_lt, List, [], ◌∷◌, ◌++◌, codes, max, Option, Some, None, if◌then◌else◌}
use Rattle.cqlp_text.specs.CellText.{date_text, digits}
use Rattle.cqlp_capture_summary.specs.declared.tally.Figures.{Figures}
use Rattle.cqlp_capture_summary.specs.Columns.{joined, number_column}
use Rattle.cqlp_capture_summary.specs.Counts.{Request, Tally}
use Rattle.cqlp_capture_summary.specs.Lines.{request_counts_text, times_text}
use Rattle.cqlp_capture_summary.specs.Summaries.{Summary, summary}
use Rattle.cqlp_capture_summary.specs.Tallies.{figures_of, none_counted, tallied_request}

-- the number of the interval in which a time in nanoseconds is, and the second at which that begins
abbrev pub interval_of : (seconds time : ℕ) → ℕ
interval_of seconds time = time / 1_000_000_000 / max seconds 1

abbrev pub begin_of : (seconds time : ℕ) → ℕ
begin_of seconds time = interval_of seconds time * max seconds 1

-- ---- the interval that is open is that of the last time

abbrev pub is_later : (seconds : ℕ) → (last at : Option ℕ) → Bool
is_later seconds last None = false
is_later seconds None (Some time) = true
is_later seconds (Some last) (Some time) = nat_lt (interval_of seconds last) (interval_of seconds time)

-- whether the interval that is counted is over, before a request that was over then
abbrev pub is_over : (seconds : ℕ) → (at : Option ℕ) → Tally → Bool
is_over seconds at t = t.count == 0 || is_later seconds t.last at

-- what is counted in the interval in which a request counts
abbrev pub open_for : (seconds : ℕ) → (at : Option ℕ) → Tally → Tally
open_for seconds at t = if is_over seconds at t then none_counted else t

abbrev pub tallied_in_interval : (seconds : ℕ) → Request → Tally → Tally
tallied_in_interval seconds r t = tallied_request r (open_for seconds r.at t)

-- in a summary among the others
abbrev pub noted_in_interval : (seconds : ℕ) → Request → Summary → Summary
noted_in_interval seconds r s = summary s.statements s.names s.weights s.tallies (tallied_in_interval seconds r s.others)

-- ---- requests one after the other: what is counted in each interval that has some, in order, behind what was counted before the first

abbrev pub closed_by : (seconds : ℕ) → Request → Tally → List Tally
closed_by seconds r t = if is_over seconds r.at t then t ∷ [] else []

abbrev pub tallies_from : (seconds : ℕ) → (before : Tally) → List Request → List Tally
tallies_from seconds t [] = t ∷ []
tallies_from seconds t (r ∷ rs) = closed_by seconds r t ++ tallies_from seconds (tallied_in_interval seconds r t) rs

-- ---- the line of an interval

-- a second since 1970-01-01 00:00:00 UTC as a date and a time of day (ISO 8601)
abbrev pub second_text : (second : ℕ) → List ℕ
second_text s =
    joined
    (date_text (2 ^ 31 + s / 86_400) ∷ codes "T" ∷ digits 2 (s / 3_600 % 24) ∷ codes ":" ∷ digits 2 (s / 60 % 60) ∷ codes ":" ∷ digits 2 (s % 60)
    ∷ codes "Z" ∷ [])

-- a dash where no time is known
abbrev pub begin_text : (seconds : ℕ) → (last : Option ℕ) → List ℕ
begin_text seconds None = codes "                   -"
begin_text seconds (Some time) = second_text (begin_of seconds time)

-- how many there were in a second, cut to the thousandth
abbrev pub rate_column : (seconds count : ℕ) → List ℕ
rate_column seconds n =
    joined (number_column 6 (n / max seconds 1) ∷ codes "." ∷ digits 3 (n % max seconds 1 * 1_000 / max seconds 1) ∷ [])

abbrev pub interval_line : (seconds : ℕ) → Figures → List ℕ
interval_line seconds f =
    joined (begin_text seconds f.last ∷ rate_column seconds f.count ∷ request_counts_text f ∷ times_text f.times ∷ codes "\n" ∷ [])

abbrev pub interval_header : List ℕ
interval_header =
    codes
    "               begin      per_s    count errors unanswered      rows       bytes   p50_ms   p95_ms   p99_ms    max_ms\n"

-- the line above all others where nothing is counted
abbrev pub interval_text : (seconds : ℕ) → Tally → List ℕ
interval_text seconds t = if t.count == 0 then interval_header else interval_line seconds (figures_of t)
