-- How many requests took how long, in ranges of time that double: the first range has the times below 32 nanoseconds, each other one those from a power
-- of two on and below the next. So each has the times of 32 buckets.
use Rattle.std.specs.Prelude.{ℕ, ◌+◌, ◌-◌, ◌*◌, ◌/◌, ◌==◌, List, [], ◌∷◌, codes, decimal, max, min, replicate, slice_range, Option, Some, None, if◌then◌else◌}
use Rattle.std.specs.List.{flat_map}
use Rattle.cqlp_text.specs.CellText.{digits}
use Rattle.cqlp_capture_summary.specs.Buckets.{bucket_of, greatest_in}
use Rattle.cqlp_capture_summary.specs.Columns.{joined, number_column, share_of, share_text}
use Rattle.cqlp_capture_summary.specs.Counts.{Tally}
use Rattle.cqlp_capture_summary.specs.Order.{upto}
use Rattle.cqlp_capture_summary.specs.Tallies.{bucket_at, counted}

-- ---- how many times a range has

abbrev pub sum_with : (sum : ℕ) → List ℕ → ℕ
sum_with s [] = s
sum_with s (n ∷ ns) = sum_with (counted s n) ns

abbrev pub count_in : (buckets : List ℕ) → (range : ℕ) → ℕ
count_in buckets r = sum_with 0 (slice_range buckets (32 * r) (32 * r + 32))

abbrev pub most_with : (most : ℕ) → (buckets ranges : List ℕ) → ℕ
most_with m buckets [] = m
most_with m buckets (r ∷ rs) = most_with (max m (count_in buckets r)) buckets rs

-- the most of so many ranges
abbrev pub most_in : (buckets : List ℕ) → (ranges : ℕ) → ℕ
most_in buckets n = most_with 0 buckets (upto 0 n)

-- ---- a row: the greatest time of a range in milliseconds, how many times it has, their share, and a bar

abbrev pub bound_text : (range : ℕ) → List ℕ
bound_text r =
    joined (number_column 6 (greatest_in (32 * r + 31) / 1_000_000) ∷ codes "." ∷ digits 6 (greatest_in (32 * r + 31)) ∷ [])

-- fifty signs in the range with most times, and in each other that has some at least one
abbrev pub bar_of : (count most : ℕ) → ℕ
bar_of n most = min ((n * 50 + (max most 1 - 1)) / max most 1) 50

abbrev pub signs_text : (signs : ℕ) → List ℕ
signs_text n = joined (codes " " ∷ replicate n 35 ∷ [])

abbrev pub bar_text : (signs : ℕ) → List ℕ
bar_text n = if n == 0 then [] else signs_text n

abbrev pub row : (buckets : List ℕ) → (timed most range : ℕ) → List ℕ
row buckets timed most r =
    joined (bound_text r ∷ number_column 8 (count_in buckets r) ∷ share_text (share_of (count_in buckets r) timed)
    ∷ bar_text (bar_of (count_in buckets r) most) ∷ codes "\n" ∷ [])

-- of ranges from the first one on and before the end
abbrev pub rows : (buckets : List ℕ) → (timed first end : ℕ) → List ℕ
rows buckets timed first end = flat_map (row buckets timed (most_in buckets 60)) (upto first (end - first))

-- ---- all of it

-- the range behind the one of a time
abbrev pub end_of : (time : ℕ) → ℕ
end_of time = bucket_of time / 32 + 1

abbrev pub ranges_from : (bucket : Option ℕ) → Tally → List ℕ
ranges_from None t = []
ranges_from (Some bucket) t = rows t.buckets t.timed (bucket / 32) (end_of t.greatest)

-- from the range of the least time to that of the greatest
abbrev pub ranges_text : Tally → List ℕ
ranges_text t = ranges_from (bucket_at 1 0 t.buckets) t

abbrev pub some_unanswered : (count : ℕ) → List ℕ
some_unanswered n = joined (codes "unanswered " ∷ decimal n ∷ codes "\n" ∷ [])

abbrev pub unanswered_text : (count : ℕ) → List ℕ
unanswered_text n = if n == 0 then [] else some_unanswered n

abbrev pub histogram_header : List ℕ
histogram_header = codes "      up_to_ms    count     %\n"

abbrev pub histogram_text : Tally → List ℕ
histogram_text t = joined (histogram_header ∷ ranges_text t ∷ unanswered_text t.unanswered ∷ [])
