-- What is counted of two lists of entries, from what is counted of each.
use Rattle.std.specs.Prelude.{◌≡◌, ℕ, ◌<◌, ◌≤◌, List, [], ◌∷◌, max, Option, Some, None, slice_index_or, slice_set}
use Rattle.cqlp_capture_summary.specs.declared.tally.Figures.{Figures}
use Rattle.cqlp_capture_summary.specs.declared.tally.Times.{Times}
use Rattle.cqlp_capture_summary.specs.Counts.{Tally, tally}
use Rattle.cqlp_capture_summary.specs.Tallies.{counted, earlier, later}

-- bucket by bucket
abbrev pub added : (more : List ℕ) → List ℕ → List ℕ
added more [] = []
added [] (n ∷ ns) = n ∷ ns
added (m ∷ ms) (n ∷ ns) = counted n m ∷ added ms ns

-- nothing is counted but in the buckets from this one on and below that one
abbrev pub IsNoneBut : (from end : ℕ) → List ℕ → Type 0
IsNoneBut from end buckets = ((k : ℕ) → k < from → slice_index_or buckets k 0 ≡ 0) × ((k : ℕ) → end ≤ k → slice_index_or buckets k 0 ≡ 0)

abbrev pub merged : (more : Tally) → Tally → Tally
merged m t =
    tally (counted t.count m.count) (counted t.errors m.errors) (counted t.unanswered m.unanswered) (counted t.rows m.rows) (counted t.bytes m.bytes)
    (earlier t.first m.first) (later t.last m.last) (counted t.timed m.timed) (counted t.time m.time) (max t.greatest m.greatest)
    (added m.buckets t.buckets)

-- ---- what is counted, from what is written of it

abbrev pub greatest_of : Option Times → ℕ
greatest_of None = 0
greatest_of (Some t) = t.greatest

abbrev pub with_figures : Figures → Tally → Tally
with_figures f t = tally f.count f.errors f.unanswered f.rows f.bytes f.first f.last t.timed f.time (greatest_of f.times) t.buckets

abbrev pub with_times : (bucket count : ℕ) → Tally → Tally
with_times b n t =
    tally t.count t.errors t.unanswered t.rows t.bytes t.first t.last (counted t.timed n) t.time t.greatest
    (slice_set t.buckets b (counted (slice_index_or t.buckets b 0) n))
