-- Laws of summaries.
use Rattle.std.specs.Prelude.{◌≡◌, ℕ, ◌-◌, ◌*◌, ◌^◌, ◌<◌, ◌≤◌, ◌==◌, false, nat_le, nat_lt, List, [], ◌∷◌, ◌++◌, Option, Some, None, IfSome, IsSomeAnd, ⊤, length}
use Rattle.std.specs.List.{filter, All}
use Rattle.cqlp_capture_summary.specs.Buckets.{bucket_of, greatest_in}
use Rattle.cqlp_capture_summary.specs.Counts.{Request, Tally}
use Rattle.cqlp_capture_summary.specs.Fingerprints.{read_from}
use Rattle.cqlp_capture_summary.specs.Heaviest.{tallied_all}
use Rattle.cqlp_capture_summary.specs.Intervals.{interval_of, tallies_from}
use Rattle.cqlp_capture_summary.specs.Merging.{merged}
use Rattle.cqlp_capture_summary.specs.Names.{Name}
use Rattle.cqlp_capture_summary.specs.Order.{rank_of, tally_at}
use Rattle.cqlp_capture_summary.specs.Summaries.{Summary, new_summary, noted_request}
use Rattle.cqlp_capture_summary.specs.declared.mode.Mode.TheVariants as mode
use Rattle.cqlp_capture_summary.specs.Tallies.{none_counted, time_at}

-- ---- what one call answers is what any call answers

abbrev pub OneAnswerOfNew : Type 0
OneAnswerOfNew = (n : ℕ) (s t : Summary) → s ≡ new_summary n → t ≡ new_summary n → t ≡ s

abbrev pub OneAnswerOfNote : Type 0
OneAnswerOfNote = (old s t : Summary) (r : Request) → s ≡ noted_request r old → t ≡ noted_request r old → t ≡ s

-- ---- buckets: a time lies in its bucket, and what is reported of it is at most 1/32 more

abbrev pub LiesInItsBucket : Type 0
LiesInItsBucket =
    (time : ℕ) → time < 2 ^ 64 → (time ≤ greatest_in (bucket_of time)) × (32 * (greatest_in (bucket_of time) - time) ≤ time)

-- ---- the time at a rank

abbrev pub with_known : Option ℕ → List ℕ → List ℕ
with_known None times = times
with_known (Some n) times = n ∷ times

-- the known times among requests, in order
abbrev pub times_in : List Request → List ℕ
times_in [] = []
times_in (e ∷ es) = with_known e.entry.took (times_in es)

-- Of the times, fewer than so many are less than this one, and at least so many are not above it.
pub record IsAtRank (rank : ℕ) (times : List ℕ) (time : ℕ) : Type 0 where
  pub below : length (filter (λ t. nat_lt t time) times) < rank
  pub within : rank ≤ length (filter (λ t. nat_le t time) times)

-- What is reported of a rank is at least the time at this rank, and at most 1/32 more.
abbrev pub ReportsTimeAtRank : Type 0
ReportsTimeAtRank =
    (os : List Request) (rank time : ℕ) → length (times_in os) < 2 ^ 64 → All (λ t. t < 2 ^ 64) (times_in os) → time < 2 ^ 64
    → IsAtRank rank (times_in os) time
    → (time ≤ time_at rank (tallied_all os none_counted)) × (32 * (time_at rank (tallied_all os none_counted) - time) ≤ time)

-- ---- the order

-- Of two places each has its own rank, less than how many there are: the one that took more has the lesser, and of two that took as much the one in front.
abbrev pub EachHasItsRank : Type 0
EachHasItsRank = (ts : List Tally) (place : ℕ) → place < length ts → rank_of place ts < length ts

abbrev pub DearerComesFirst : Type 0
DearerComesFirst =
    (ts : List Tally) (a b : ℕ) → a < length ts → b < length ts → (tally_at ts b).time < (tally_at ts a).time → rank_of a ts < rank_of b ts

abbrev pub FirstComesFirst : Type 0
FirstComesFirst =
    (ts : List Tally) (a b : ℕ) → a < b → b < length ts → (tally_at ts b).time ≡ (tally_at ts a).time → rank_of a ts < rank_of b ts

-- ---- merging

-- What is counted of two lists of requests together is what is counted of the one list behind the other: each count, each sum and each bucket, and so
-- each percentile.
abbrev pub MergeCountsBoth : Type 0
MergeCountsBoth = (xs ys : List Request) → merged (tallied_all ys none_counted) (tallied_all xs none_counted) ≡ tallied_all (xs ++ ys) none_counted

-- ---- intervals

abbrev pub merged_all : List Tally → Tally
merged_all [] = none_counted
merged_all (t ∷ ts) = merged (merged_all ts) t

-- What is counted of all intervals together is what is counted of all requests: each counts in one interval.
abbrev pub CountsEachInOneInterval : Type 0
CountsEachInOneInterval =
    (seconds : ℕ) (rs : List Request) → merged_all (tallies_from seconds none_counted rs) ≡ tallied_all rs none_counted

-- an interval of which the time is known, and one that is later
abbrev pub IsLater : (seconds : ℕ) → Tally → Tally → Type 0
IsLater seconds t u = IfSome t.last (λ last. IsSomeAnd u.last (λ next. interval_of seconds last < interval_of seconds next))

abbrev pub Rise : (seconds : ℕ) → List Tally → Type 0
Rise seconds [] = ⊤
Rise seconds (t ∷ ts) = All (IsLater seconds t) ts × Rise seconds ts

-- Behind an interval all are later ones, whatever the order of the times: none has two lines.
abbrev pub IntervalsRise : Type 0
IntervalsRise = (seconds : ℕ) (rs : List Request) → Rise seconds (tallies_from seconds none_counted rs)

-- ---- fingerprints

abbrev pub HasNone : (byte : ℕ) → List ℕ → Type 0
HasNone byte bytes = All (λ b. (b == byte) ≡ false) bytes

-- What is in a text between quotes makes no difference to what is written, of it and of all behind it.
abbrev pub TextsAreAlike : Type 0
TextsAreAlike =
    (t u rest : List ℕ) (w : Name) → HasNone 39 t → HasNone 39 u
    → read_from mode.Between (39 ∷ (t ++ 39 ∷ rest)) w ≡ read_from mode.Between (39 ∷ (u ++ 39 ∷ rest)) w
