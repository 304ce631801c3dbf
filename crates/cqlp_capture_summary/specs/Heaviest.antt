-- What the table of a summary keeps, over all that was noted.
use Rattle.std.specs.Prelude.{◌≡◌, ℕ, ◌+◌, ◌*◌, ◌^◌, ◌<◌, ◌≤◌, Bool, true, List, [], ◌∷◌, ◌++◌, length, Option, Some, None, slice_index_or}
use Rattle.std.specs.List.{filter, position}
use Rattle.cqlp_capture_summary.specs.Counts.{Request, Tally}
use Rattle.cqlp_capture_summary.specs.Names.{Name, is_same, name}
use Rattle.cqlp_capture_summary.specs.Summaries.{Summary, missing_at, new_summary, noted_request, request_name}
use Rattle.cqlp_capture_summary.specs.Tallies.{none_counted, tallied_request, time_of}

-- one request after the other
abbrev pub all_noted : List Request → Summary → Summary
all_noted [] s = s
all_noted (r ∷ rs) s = all_noted rs (noted_request r s)

-- what is counted already, and then of these
abbrev pub tallied_all : List Request → Tally → Tally
tallied_all [] t = t
tallied_all (r ∷ rs) t = tallied_all rs (tallied_request r t)

-- nanoseconds that requests took in sum
abbrev pub whole_time : List Request → ℕ
whole_time [] = 0
whole_time (r ∷ rs) = time_of r.entry.took + whole_time rs

abbrev pub is_of : Name → Request → Bool
is_of n r = is_same n (request_name r)

-- the requests for a statement
abbrev pub requests_of : Name → List Request → List Request
requests_of n rs = filter (is_of n) rs

-- nanoseconds that a statement took in sum
abbrev pub time_under : Name → List Request → ℕ
time_under n rs = whole_time (requests_of n rs)

abbrev pub name_at : Summary → (place : ℕ) → Name
name_at s place = slice_index_or s.names place (name [] true)

abbrev pub tally_of : Summary → (place : ℕ) → Tally
tally_of s place = slice_index_or s.tallies place none_counted

-- ---- where there is room for all

abbrev pub names_with : (place : Option ℕ) → Name → List Name → List Name
names_with (Some at) n names = names
names_with None n names = names ++ n ∷ []

-- these names, and then those of requests, each once, in the order in which they came first
abbrev pub names_of : List Request → (before : List Name) → List Name
names_of [] names = names
names_of (r ∷ rs) names = names_of rs (names_with (position (is_same (request_name r)) names) (request_name r) names)

-- each statement has a place, in the order in which they came first, and is counted whole; there are no others
pub record CountsAll (rs : List Request) (s : Summary) : Type 0 where
  pub names : s.names ≡ names_of rs []
  pub exact : (place : ℕ) → place < length s.names → tally_of s place ≡ tallied_all (requests_of (name_at s place) rs) none_counted
  pub others : s.others ≡ none_counted

-- Where at most n different statements come, n places count all of them.
abbrev pub CountsAllWhereThereIsRoom : Type 0
CountsAllWhereThereIsRoom = (n : ℕ) (rs : List Request) → length (names_of rs []) ≤ n → CountsAll rs (all_noted rs (new_summary n))

-- ---- where there is not

abbrev pub IsKept : Name → Summary → Type 0
IsKept n s = (place : ℕ) × ((place < length s.names) × (name_at s place ≡ n))

-- A statement that took more than one in n of the whole time has one of the n places.
abbrev pub KeepsTheHeaviest : Type 0
KeepsTheHeaviest =
    (n : ℕ) (rs : List Request) (x : Name) → whole_time rs < 2 ^ 64 → whole_time rs < n * time_under x rs → IsKept x (all_noted rs (new_summary n))

-- What is shown of a statement is exact from a request on. The time that it took before is at most what may be missing, which is at most one in n of the
-- whole time.
pub record IsExactSince (n : ℕ) (rs : List Request) (s : Summary) (place : ℕ) : Type 0 where
  pub before : List Request
  pub after : List Request
  pub parts : rs ≡ before ++ after
  pub exact : tally_of s place ≡ tallied_all (requests_of (name_at s place) after) none_counted
  pub most : time_under (name_at s place) before ≤ missing_at place s
  pub error : n * missing_at place s ≤ whole_time rs

abbrev pub ShowsExactlySince : Type 0
ShowsExactlySince =
    (n : ℕ) (rs : List Request) (place : ℕ) → whole_time rs < 2 ^ 64 → place < length (all_noted rs (new_summary n)).names
    → IsExactSince n rs (all_noted rs (new_summary n)) place

-- Each statement has one place at most.
abbrev pub KeepsEachOnce : Type 0
KeepsEachOnce =
    (n : ℕ) (rs : List Request) (a b : ℕ) → whole_time rs < 2 ^ 64
    → a < length (all_noted rs (new_summary n)).names → b < length (all_noted rs (new_summary n)).names
    → name_at (all_noted rs (new_summary n)) a ≡ name_at (all_noted rs (new_summary n)) b → a ≡ b
