-- The statements of a capture, in a table of bounded size that keeps the heaviest.
--
-- A place of the table has a statement, what was counted of it since it was taken in, and its weight: the most nanoseconds that it may have taken in
-- all. A statement that is not in the table takes a free place, or else the place of the lightest, whose counts go to the others. It begins with the weight
-- of the one that it replaces: no statement outside of the table took more. So what may be missing of a statement is its weight less its time.
use Rattle.std.specs.Prelude.{ℕ, ◌+◌, ◌-◌, nat_lt, List, [], ◌∷◌, ◌++◌, length, replicate, Option, Some, None, if◌then◌else◌, slice_index_or, slice_set}
use Rattle.std.specs.List.{position}
use Rattle.cqlp_capture_summary.specs.Counts.{Entry, Request, Tally, answered}
use Rattle.cqlp_capture_summary.specs.Merging.{merged}
use Rattle.cqlp_capture_summary.specs.Names.{Name, is_same, name_of}
use Rattle.cqlp_capture_summary.specs.Tallies.{counted, none_counted, tallied_request, time_of}

-- how many places there are; the names and weights of those that are taken, a tally for each place, and one for all other statements
pub record Summary : Type 0 where
  pub statements : ℕ
  pub names : List Name
  pub weights : List ℕ
  pub tallies : List Tally
  pub others : Tally

abbrev pub summary : ℕ → List Name → (weights : List ℕ) → List Tally → (others : Tally) → Summary
summary statements names weights tallies others =
    record { statements = statements; names = names; weights = weights; tallies = tallies; others = others }

abbrev pub new_summary : (statements : ℕ) → Summary
new_summary n = summary n [] [] (replicate n none_counted) none_counted

-- the tallies of all places, where these are those of the places that are taken
abbrev pub padded : (places : ℕ) → List Tally → List Tally
padded n ts = ts ++ replicate (n - length ts) none_counted

-- ---- the place of a statement

-- the first place of the least weight, from this place on, where this one is the best so far
abbrev pub lightest_from : (best least place : ℕ) → List ℕ → ℕ
lightest_from best least place [] = best
lightest_from best least place (w ∷ ws) =
    if nat_lt w least then lightest_from place w (place + 1) ws else lightest_from best least (place + 1) ws

abbrev pub lightest : (weights : List ℕ) → Option ℕ
lightest [] = None
lightest (w ∷ ws) = Some (lightest_from 0 w 0 (w ∷ ws))

-- for one that is not in the table: a free place, or else that of the lightest
abbrev pub new_place : Summary → Option ℕ
new_place s = if nat_lt (length s.names) s.statements then Some (length s.names) else lightest s.weights

abbrev pub place_or : Option ℕ → Option ℕ → Option ℕ
place_or (Some at) other = Some at
place_or None other = other

-- where a statement is counted; where there are no places, among the others
abbrev pub place_of : Name → Summary → Option ℕ
place_of n s = place_or (position (is_same n) s.names) (new_place s)

-- ---- a statement is taken in

abbrev pub with_new : Name → Summary → Summary
with_new n s = summary s.statements (s.names ++ n ∷ []) (s.weights ++ 0 ∷ []) s.tallies s.others

-- The counts of the one that was there go to the others; its weight stays.
abbrev pub with_in_place_of : (place : ℕ) → Name → Summary → Summary
with_in_place_of at n s =
    summary s.statements (slice_set s.names at n) s.weights (slice_set s.tallies at none_counted)
    (merged (slice_index_or s.tallies at none_counted) s.others)

abbrev pub with_in_place_if : (place : Option ℕ) → Name → Summary → Summary
with_in_place_if None n s = s
with_in_place_if (Some at) n s = with_in_place_of at n s

abbrev pub taken_in : Name → Summary → Summary
taken_in n s = if nat_lt (length s.names) s.statements then with_new n s else with_in_place_if (lightest s.weights) n s

abbrev pub with_name_if : (place : Option ℕ) → Name → Summary → Summary
with_name_if (Some at) n s = s
with_name_if None n s = taken_in n s

abbrev pub with_name : Name → Summary → Summary
with_name n s = with_name_if (position (is_same n) s.names) n s

-- ---- a request is counted

abbrev pub with_request_at : (place : ℕ) → Request → Summary → Summary
with_request_at at r s =
    summary s.statements s.names (slice_set s.weights at (counted (slice_index_or s.weights at 0) (time_of r.entry.took)))
    (slice_set s.tallies at (tallied_request r (slice_index_or s.tallies at none_counted))) s.others

abbrev pub with_request : (place : Option ℕ) → Request → Summary → Summary
with_request (Some at) r s = with_request_at at r s
with_request None r s = summary s.statements s.names s.weights s.tallies (tallied_request r s.others)

abbrev pub entry_name : Entry → Name
entry_name e = name_of e.name e.is_whole_name

abbrev pub request_name : Request → Name
request_name r = entry_name r.entry

abbrev pub noted_request : Request → Summary → Summary
noted_request r s = with_request (place_of (request_name r) s) r (with_name (request_name r) s)

abbrev pub noted : Entry → Summary → Summary
noted e s = noted_request (answered e) s

-- what may be missing of a statement: the most nanoseconds that it took before it was last taken in
abbrev pub missing_at : (place : ℕ) → Summary → ℕ
missing_at at s = slice_index_or s.weights at 0 - (slice_index_or s.tallies at none_counted).time
