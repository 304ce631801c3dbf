-- The order of statements: first the one that took most time in sum, and of two that took as much the one that was asked for first.
use Rattle.std.specs.Prelude.{◌≡◌, ◌<◌, ℕ, zero, suc, Bool, ◌+◌, nat_le, nat_lt, List, [], ◌∷◌, drop, length, slice_index_or, take}
use Rattle.std.specs.List.{filter}
use Rattle.cqlp_capture_summary.specs.Counts.{Tally}
use Rattle.cqlp_capture_summary.specs.Tallies.{none_counted}

abbrev pub is_as_dear : (time : ℕ) → Tally → Bool
is_as_dear time t = nat_le time t.time

abbrev pub is_dearer : (time : ℕ) → Tally → Bool
is_dearer time t = nat_lt time t.time

abbrev pub tally_at : List Tally → (place : ℕ) → Tally
tally_at ts place = slice_index_or ts place none_counted

-- how many come before one of this time at this place: those in front of it that took as much or more, and those behind it that took more
abbrev pub rank_among : (time place : ℕ) → List Tally → ℕ
rank_among time place ts = length (filter (is_as_dear time) (take place ts)) + length (filter (is_dearer time) (drop place ts))

abbrev pub rank_of : (place : ℕ) → List Tally → ℕ
rank_of place ts = rank_among (tally_at ts place).time place ts

-- the ranks of the statements at the first places
abbrev pub AreRanks : List ℕ → List Tally → Type 0
AreRanks ranks ts = (place : ℕ) → place < length ranks → place < length ts → slice_index_or ranks place 0 ≡ rank_of place ts

-- so many numbers from this one on
abbrev pub upto : (from count : ℕ) → List ℕ
upto from zero = []
upto from (suc n) = from ∷ upto (from + 1) n
