-- What is counted of all names together, where counts are added.
use Rattle.std.specs.Prelude.{◌≡◌, ⊤, ℕ, List, [], ◌∷◌, Option, Some, None, length}
use Rattle.cqlp_capture_summary.specs.Adding.{with_others, with_row}
use Rattle.cqlp_capture_summary.specs.Counts.{Tally}
use Rattle.cqlp_capture_summary.specs.Merging.{merged}
use Rattle.cqlp_capture_summary.specs.Names.{Name}
use Rattle.cqlp_capture_summary.specs.Summaries.{Summary, new_summary}
use Rattle.cqlp_capture_summary.specs.Tallies.{none_counted}

-- the counts of a name, or of all others, how long it took there at most, and before where it has no place
pub record Part : Type 0 where
  pub name : Option Name
  pub counts : Tally
  pub most : ℕ
  pub before : ℕ

abbrev pub with_counts_of : Option Name → (counts : Tally) → (most before : ℕ) → Summary → Summary
with_counts_of None t most before s = with_others t s
with_counts_of (Some n) t most before s = with_row n t most before s

abbrev pub with_part : Part → Summary → Summary
with_part p s = with_counts_of p.name p.counts p.most p.before s

-- one after the other
abbrev pub all_added : List Part → Summary → Summary
all_added [] s = s
all_added (p ∷ ps) s = all_added ps (with_part p s)

-- what is counted already, and these
abbrev pub together : List Tally → Tally → Tally
together [] t = t
together (u ∷ us) t = together us (merged u t)

-- likewise of parts
abbrev pub sum_of : List Part → Tally → Tally
sum_of [] t = t
sum_of (p ∷ ps) t = sum_of ps (merged p.counts t)

-- what a table counts of all names together
abbrev pub whole_of : Summary → Tally
whole_of s = together s.tallies s.others

abbrev pub HasBuckets : Tally → Type 0
HasBuckets t = length t.buckets ≡ 1920

abbrev pub HaveBuckets : List Part → Type 0
HaveBuckets [] = ⊤
HaveBuckets (p ∷ ps) = HasBuckets p.counts × HaveBuckets ps

-- What a table of any size counts of all names together is the sum of all that was added, whichever names gave up their places.
abbrev pub SumsAreExact : Type 0
SumsAreExact = (n : ℕ) (ps : List Part) → HaveBuckets ps → whole_of (all_added ps (new_summary n)) ≡ sum_of ps none_counted
