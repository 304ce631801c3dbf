-- What was counted elsewhere is added to a table, a name at a time.
use Rattle.std.specs.Prelude.{ℕ, max, nat_lt, List, length, Option, Some, None, if◌then◌else◌, slice_index_or, slice_set}
use Rattle.std.specs.List.{position}
use Rattle.cqlp_capture_summary.specs.Counts.{Tally}
use Rattle.cqlp_capture_summary.specs.Merging.{merged}
use Rattle.cqlp_capture_summary.specs.Names.{Name, is_same}
use Rattle.cqlp_capture_summary.specs.Summaries.{Summary, lightest, place_of, summary, with_name}
use Rattle.cqlp_capture_summary.specs.Tallies.{counted, none_counted}

-- a weight that was at least this before, and so much more
abbrev pub raised : (before most weight : ℕ) → ℕ
raised before most w = counted (max w before) most

abbrev pub with_others : (counts : Tally) → Summary → Summary
with_others t s = summary s.statements s.names s.weights s.tallies (merged t s.others)

abbrev pub with_counts_at : (place : ℕ) → (counts : Tally) → (most before : ℕ) → Summary → Summary
with_counts_at at t most before s =
    summary s.statements s.names (slice_set s.weights at (raised before most (slice_index_or s.weights at 0)))
    (slice_set s.tallies at (merged t (slice_index_or s.tallies at none_counted))) s.others

abbrev pub with_counts : (place : Option ℕ) → (counts : Tally) → (most before : ℕ) → Summary → Summary
with_counts (Some at) t most before s = with_counts_at at t most before s
with_counts None t most before s = with_others t s

-- What a name may have taken before counts where it has no place yet.
abbrev pub before_at : (place : Option ℕ) → (before : ℕ) → ℕ
before_at None before = before
before_at (Some at) before = 0

-- the counts of a name, which took at most so many nanoseconds where they were counted, and before at most `before` where it has no place yet
abbrev pub with_row : Name → (counts : Tally) → (most before : ℕ) → Summary → Summary
with_row n t most before s = with_counts (place_of n s) t most (before_at (position (is_same n) s.names) before) (with_name n s)

-- the most that a statement may have taken that gave up its place
abbrev pub weight_of : (place : Option ℕ) → (weights : List ℕ) → ℕ
weight_of None ws = 0
weight_of (Some at) ws = slice_index_or ws at 0

abbrev pub given_up : Summary → ℕ
given_up s = if nat_lt (length s.names) s.statements then 0 else weight_of (lightest s.weights) s.weights

-- the statement at a place may have taken so many nanoseconds more
abbrev pub with_weight : (place more : ℕ) → Summary → Summary
with_weight at more s =
    summary s.statements s.names (slice_set s.weights at (counted (slice_index_or s.weights at 0) more)) s.tallies s.others
