-- Occurrences of a statement are counted, and what is reported of them.
use Rattle.std.specs.Prelude.{ℕ, ◌+◌, ◌-◌, ◌/◌, ◌^◌, ◌==◌, Bool, true, false, nat_le, List, [], ◌∷◌, replicate, min, max, Option, Some, None, if◌then◌else◌, slice_index_or, slice_set}
use Rattle.cqlp_capture_summary.specs.declared.tally.Figures.{Figures}
use Rattle.cqlp_capture_summary.specs.declared.tally.Times.{Times}
use Rattle.cqlp_capture_summary.specs.Buckets.{bucket_of, greatest_in}
use Rattle.cqlp_capture_summary.specs.Counts.{Entry, Request, Tally, tally}

-- so many more, up to what a number holds
abbrev pub counted : ℕ → (more : ℕ) → ℕ
counted n more = min (n + more) (2 ^ 64 - 1)

abbrev pub none_counted : Tally
none_counted = tally 0 0 0 0 0 None None 0 0 0 (replicate 1920 0)

abbrev pub with_bucket : (bucket : ℕ) → List ℕ → List ℕ
with_bucket b buckets = slice_set buckets b (counted (slice_index_or buckets b 0) 1)

abbrev pub with_time : (time : ℕ) → Tally → Tally
with_time n t =
    tally t.count t.errors t.unanswered t.rows t.bytes t.first t.last (counted t.timed 1) (counted t.time n) (max t.greatest n)
    (with_bucket (bucket_of n) t.buckets)

-- A time that is not known is none.
abbrev pub with_time_if : Option ℕ → Tally → Tally
with_time_if None t = t
with_time_if (Some n) t = with_time n t

-- what is counted of it where sums are
abbrev pub time_of : Option ℕ → ℕ
time_of None = 0
time_of (Some n) = n

abbrev pub error_count : (is_error : Bool) → ℕ
error_count true = 1
error_count false = 0

abbrev pub tallied : Entry → Tally → Tally
tallied o t =
    with_time_if o.took
    (tally (counted t.count 1) (counted t.errors (error_count o.is_error)) t.unanswered (counted t.rows o.rows) (counted t.bytes o.bytes)
    t.first t.last t.timed t.time t.greatest t.buckets)

-- ---- whether it was answered, and when it was asked for

abbrev pub earlier : Option ℕ → Option ℕ → Option ℕ
earlier None b = b
earlier (Some a) None = Some a
earlier (Some a) (Some b) = Some (min a b)

abbrev pub later : Option ℕ → Option ℕ → Option ℕ
later None b = b
later (Some a) None = Some a
later (Some a) (Some b) = Some (max a b)

abbrev pub with_answer : (is_answered : Bool) → Tally → Tally
with_answer true t = t
with_answer false t =
    tally t.count t.errors (counted t.unanswered 1) t.rows t.bytes t.first t.last t.timed t.time t.greatest t.buckets

abbrev pub with_seen : (at : Option ℕ) → Tally → Tally
with_seen at t =
    tally t.count t.errors t.unanswered t.rows t.bytes (earlier t.first at) (later t.last at) t.timed t.time t.greatest t.buckets

abbrev pub with_seen_if : (at : Option ℕ) → Tally → Tally
with_seen_if None t = t
with_seen_if (Some n) t = with_seen (Some n) t

abbrev pub tallied_request : Request → Tally → Tally
tallied_request r t = with_seen_if r.at (with_answer r.is_answered (tallied r.entry t))

-- ---- the time that so many of the known times are not above

-- the bucket of the time at this rank, counted from 1
abbrev pub bucket_at : (rank bucket : ℕ) → List ℕ → Option ℕ
bucket_at rank bucket [] = None
bucket_at rank bucket (n ∷ ns) = if nat_le rank n then Some bucket else bucket_at (rank - n) (bucket + 1) ns

abbrev pub time_in : Option ℕ → (greatest : ℕ) → ℕ
time_in None greatest = greatest
time_in (Some bucket) greatest = min (greatest_in bucket) greatest

-- the greatest time of its bucket, or the greatest of all where that is less
abbrev pub time_at : (rank : ℕ) → Tally → ℕ
time_at rank t = time_in (bucket_at rank 0 t.buckets) t.greatest

-- the median, the times that 95 and 99 of 100 are not above, and the greatest: at a half of the known times, and at 95 and 99 hundredths, rounded up
abbrev pub some_times : Tally → Times
some_times t = record {
  median = time_at (t.timed - t.timed / 2) t;
  percentile_95 = time_at (t.timed - t.timed / 20) t;
  percentile_99 = time_at (t.timed - t.timed / 100) t;
  greatest = t.greatest;
}

abbrev pub times_of : Tally → Option Times
times_of t = if t.timed == 0 then None else Some (some_times t)

abbrev pub figures_of : Tally → Figures
figures_of t =
    record {
      count = t.count;
      errors = t.errors;
      unanswered = t.unanswered;
      rows = t.rows;
      bytes = t.bytes;
      first = t.first;
      last = t.last;
      time = t.time;
      times = times_of t;
    }
