-- What is counted of all names together is the sum of what was added.
use Rattle.std.proofs.Common.{◌≡◌, ◌∙◌, ◌+◌, ◌<◌, ◌≤◌, ℕ, zero, suc, true, false, List, [], ◌∷◌, ◌++◌, length, replicate, max, Option, Some, None, IfSome, inl, inr, refl, sym, ap, subst, arith, length-append, nat_lt, slice_index_or, slice_set}
use Rattle.std.proofs.lemmas.Bool.{cases_lt, lt-ltb, le-ltb}
use Rattle.std.proofs.lemmas.List.{length-set}
use Rattle.std.specs.Prelude.{⊤}
use Rattle.cqlp_capture_summary.specs.Adding.{before_at, raised, with_counts, with_counts_at, with_others, with_row}
use Rattle.cqlp_capture_summary.specs.Counts.{Tally}
use Rattle.cqlp_capture_summary.specs.Merging.{added, merged}
use Rattle.cqlp_capture_summary.specs.Names.{Name}
use Rattle.cqlp_capture_summary.specs.Summaries.{Summary, lightest, new_place, new_summary, place_or, with_in_place_if, with_in_place_of, with_name_if, with_new}
use Rattle.cqlp_capture_summary.specs.Sums.{HasBuckets, HaveBuckets, Part, SumsAreExact, all_added, sum_of, together, whole_of, with_counts_of, with_part}
use Rattle.cqlp_capture_summary.specs.Tallies.{counted, earlier, later, none_counted}
use Rattle.cqlp_capture_summary.proofs.Added.{added_long}
use Rattle.cqlp_capture_summary.proofs.Entries.{Absent, Found, search_name}
use Rattle.cqlp_capture_summary.proofs.Lightest.{lightest_is}
use Rattle.cqlp_capture_summary.proofs.Merges.{counted_across, counted_apart, earlier_across, earlier_apart, later_across, later_apart, max_across, max_apart, none_merged, same_tally}

-- ---- buckets

added_apart : (cs us ts : List ℕ) → length us ≡ length cs → length ts ≡ length us → added (added cs us) ts ≡ added cs (added us ts)
added_apart [] [] [] e f = refl
added_apart [] [] (t ∷ ts) e f = absurd (omega arith)
added_apart [] (u ∷ us) ts e f = absurd (omega arith)
added_apart (c ∷ cs) [] ts e f = absurd (omega arith)
added_apart (c ∷ cs) (u ∷ us) [] e f = absurd (omega arith)
added_apart (c ∷ cs) (u ∷ us) (t ∷ ts) e f =
    ap (λ k. k ∷ added (added cs us) ts) (counted_apart t u c) ∙ ap (λ l. counted (counted t u) c ∷ l) (added_apart cs us ts (omega arith) (omega arith))

added_across : (cs us ts : List ℕ) → length us ≡ length cs → length ts ≡ length us → added us (added cs ts) ≡ added cs (added us ts)
added_across [] [] [] e f = refl
added_across [] [] (t ∷ ts) e f = absurd (omega arith)
added_across [] (u ∷ us) ts e f = absurd (omega arith)
added_across (c ∷ cs) [] ts e f = absurd (omega arith)
added_across (c ∷ cs) (u ∷ us) [] e f = absurd (omega arith)
added_across (c ∷ cs) (u ∷ us) (t ∷ ts) e f =
    ap (λ k. k ∷ added us (added cs ts)) (counted_across t u c) ∙ ap (λ l. counted (counted t u) c ∷ l) (added_across cs us ts (omega arith) (omega arith))

still : (n m : ℕ) → counted (counted n m) 0 ≡ counted n m
still n m = omega arith

none_added : (n : ℕ) (ms ns : List ℕ) → length ms ≡ n → length ns ≡ n → added (replicate n 0) (added ms ns) ≡ added ms ns
none_added zero [] [] e f = refl
none_added zero (m ∷ ms) ns e f = absurd (omega arith)
none_added zero [] (n ∷ ns) e f = absurd (omega arith)
none_added (suc k) [] ns e f = absurd (omega arith)
none_added (suc k) (m ∷ ms) [] e f = absurd (omega arith)
none_added (suc k) (m ∷ ms) (n ∷ ns) e f =
    ap (λ x. x ∷ added (replicate k 0) (added ms ns)) (still n m) ∙ ap (λ l. counted n m ∷ l) (none_added k ms ns (omega arith) (omega arith))

-- ---- tallies

earlier_none : (a : Option ℕ) → earlier a None ≡ a
earlier_none None = refl
earlier_none (Some a) = refl

later_none : (a : Option ℕ) → later a None ≡ a
later_none None = refl
later_none (Some a) = refl

max_none : (n : ℕ) → max n 0 ≡ n
max_none n = omega arith

merged_apart : (c u t : Tally) → HasBuckets c → HasBuckets u → HasBuckets t → merged (merged c u) t ≡ merged c (merged u t)
merged_apart c u t lc lu lt =
    same_tally _ _ (counted_apart t.count u.count c.count) (counted_apart t.errors u.errors c.errors) (counted_apart t.unanswered u.unanswered c.unanswered)
    (counted_apart t.rows u.rows c.rows) (counted_apart t.bytes u.bytes c.bytes) (earlier_apart t.first u.first c.first) (later_apart t.last u.last c.last)
    (counted_apart t.timed u.timed c.timed) (counted_apart t.time u.time c.time) (max_apart t.greatest u.greatest c.greatest)
    (added_apart c.buckets u.buckets t.buckets (lu ∙ sym lc) (lt ∙ sym lu))

merged_across : (c u t : Tally) → HasBuckets c → HasBuckets u → HasBuckets t → merged u (merged c t) ≡ merged c (merged u t)
merged_across c u t lc lu lt =
    same_tally _ _ (counted_across t.count u.count c.count) (counted_across t.errors u.errors c.errors)
    (counted_across t.unanswered u.unanswered c.unanswered) (counted_across t.rows u.rows c.rows) (counted_across t.bytes u.bytes c.bytes)
    (earlier_across t.first u.first c.first) (later_across t.last u.last c.last) (counted_across t.timed u.timed c.timed)
    (counted_across t.time u.time c.time) (max_across t.greatest u.greatest c.greatest) (added_across c.buckets u.buckets t.buckets (lu ∙ sym lc) (lt ∙ sym lu))

merged_none : (u t : Tally) → HasBuckets u → HasBuckets t → merged none_counted (merged u t) ≡ merged u t
merged_none u t lu lt =
    same_tally _ _ (still t.count u.count) (still t.errors u.errors) (still t.unanswered u.unanswered) (still t.rows u.rows) (still t.bytes u.bytes)
    (earlier_none (earlier t.first u.first)) (later_none (later t.last u.last)) (still t.timed u.timed) (still t.time u.time)
    (max_none (max t.greatest u.greatest)) (none_added 1920 u.buckets t.buckets lu lt)

merged_long : (c t : Tally) → HasBuckets t → HasBuckets (merged c t)
merged_long c t lt = added_long c.buckets t.buckets ∙ lt

-- ---- lists of tallies

abbrev AreLong : List Tally → Type 0
AreLong [] = ⊤
AreLong (t ∷ ts) = HasBuckets t × AreLong ts

long_at : (ts : List Tally) (at : ℕ) → at < length ts → AreLong ts → HasBuckets (slice_index_or ts at none_counted)
long_at [] at inside long = absurd (omega (arith, inside))
long_at (t ∷ ts) zero inside long = long.0
long_at (t ∷ ts) (suc at) inside long = long_at ts at (omega (arith, inside)) long.1

long_set : (ts : List Tally) (at : ℕ) (u : Tally) → HasBuckets u → AreLong ts → AreLong (slice_set ts at u)
long_set [] at u lu long = long
long_set (t ∷ ts) zero u lu long = (lu, long.1)
long_set (t ∷ ts) (suc at) u lu long = (long.0, long_set ts at u lu long.1)

all_across : (ts : List Tally) (c t : Tally) → AreLong ts → HasBuckets c → HasBuckets t → together ts (merged c t) ≡ merged c (together ts t)
all_across [] c t long lc lt = refl
all_across (u ∷ us) c t long lc lt =
    ap (together us) (merged_across c u t lc long.0 lt) ∙ all_across us c (merged u t) long.1 lc (merged_long u t lt)

at_place : (ts : List Tally) (at : ℕ) (c t : Tally) → at < length ts → AreLong ts → HasBuckets c → HasBuckets t
    → together (slice_set ts at (merged c (slice_index_or ts at none_counted))) t ≡ merged c (together ts t)
at_place [] at c t inside long lc lt = absurd (omega (arith, inside))
at_place (u ∷ us) zero c t inside long lc lt =
    ap (together us) (merged_apart c u t lc long.0 lt) ∙ all_across us c (merged u t) long.1 lc (merged_long u t lt)
at_place (u ∷ us) (suc at) c t inside long lc lt = at_place us at c (merged u t) (omega (arith, inside)) long.1 lc (merged_long u t lt)

given_up_at : (ts : List Tally) (at : ℕ) (t : Tally) → at < length ts → AreLong ts → HasBuckets t
    → together (slice_set ts at none_counted) (merged (slice_index_or ts at none_counted) t) ≡ together ts t
given_up_at [] at t inside long lt = absurd (omega (arith, inside))
given_up_at (u ∷ us) zero t inside long lt = ap (together us) (merged_none u t long.0 lt)
given_up_at (u ∷ us) (suc at) t inside long lt =
    let within : at < length us = omega (arith, inside) in
    ap (together (slice_set us at none_counted)) (merged_across (slice_index_or us at none_counted) u t (long_at us at within long.1) long.0 lt)
    ∙ given_up_at us at (merged u t) within long.1 (merged_long u t lt)

none_long : (n : ℕ) → length {A = ℕ} (replicate n 0) ≡ n
none_long zero = refl
none_long (suc n) = ap suc (none_long n)

new_long : (n : ℕ) → AreLong (replicate n none_counted)
new_long zero = tt
new_long (suc n) = (none_long 1920, new_long n)

new_none : (n : ℕ) → together (replicate n none_counted) none_counted ≡ none_counted
new_none zero = refl
new_none (suc n) = ap (together (replicate n none_counted)) none_merged ∙ new_none n

as_many : (n : ℕ) → length (replicate n none_counted) ≡ n
as_many zero = refl
as_many (suc n) = ap suc (as_many n)

-- ---- tables

record Formed (s : Summary) : Type 0 where
  long : AreLong s.tallies
  others : HasBuckets s.others
  names : length s.names ≤ s.statements
  weights : length s.weights ≡ length s.names
  places : length s.tallies ≡ s.statements

record Adds (c : Tally) (s t : Summary) : Type 0 where
  whole : whole_of t ≡ merged c (whole_of s)
  formed : Formed t

others_added : (c : Tally) (s : Summary) → HasBuckets c → Formed s → Adds c s (with_others c s)
others_added c s lc f = record {
  whole = all_across s.tallies c s.others f.long lc f.others;
  formed = record { long = f.long; others = merged_long c s.others f.others; names = f.names; weights = f.weights; places = f.places };
}

counts_added : (at : ℕ) (c : Tally) (most before : ℕ) (s : Summary) → at < length s.tallies → HasBuckets c → Formed s → Adds c s (with_counts_at at c most before s)
counts_added at c most before s inside lc f = record {
  whole = at_place s.tallies at c s.others inside f.long lc f.others;
  formed = record {
    long = long_set s.tallies at (merged c (slice_index_or s.tallies at none_counted)) (merged_long c (slice_index_or s.tallies at none_counted) (long_at s.tallies at inside f.long)) f.long;
    others = f.others;
    names = f.names;
    weights = length-set s.weights at (raised before most (slice_index_or s.weights at 0)) ∙ f.weights;
    places = length-set s.tallies at (merged c (slice_index_or s.tallies at none_counted)) ∙ f.places;
  };
}

-- the same of another table that counts as much
through : (c : Tally) (s t u : Summary) → whole_of t ≡ whole_of s → Adds c t u → Adds c s u
through c s t u same a = record { whole = a.whole ∙ ap (merged c) same; formed = a.formed }

new_formed : (x : Name) (s : Summary) → length s.names < s.statements → Formed s → Formed (with_new x s)
new_formed x s room f =
    let l : length (s.names ++ x ∷ []) ≡ length s.names + 1 = length-append s.names (x ∷ []) in
    let w : length (s.weights ++ 0 ∷ []) ≡ length s.weights + 1 = length-append s.weights (0 ∷ []) in
    let e = f.weights in
    record { long = f.long; others = f.others; names = omega (arith, l, room); weights = omega (arith, l, w, e); places = f.places }

replaced_formed : (at : ℕ) (x : Name) (s : Summary) → Formed s → Formed (with_in_place_of at x s)
replaced_formed at x s f =
    let l : length (slice_set s.names at x) ≡ length s.names = length-set s.names at x in
    let n = f.names in
    record {
      long = long_set s.tallies at none_counted (none_long 1920) f.long;
      others = merged_long (slice_index_or s.tallies at none_counted) s.others f.others;
      names = omega (arith, l, n);
      weights = f.weights ∙ sym l;
      places = length-set s.tallies at none_counted ∙ f.places;
    }

-- in place of the lightest, if there is one
full_added : (o : Option ℕ) (x : Name) (c : Tally) (most before : ℕ) (s : Summary) → IfSome o (λ at. at < length s.tallies) → HasBuckets c → Formed s
    → Adds c s (with_counts o c most before (with_in_place_if o x s))
full_added None x c most before s inside lc f = others_added c s lc f
full_added (Some at) x c most before s inside lc f =
    let as_long : length (slice_set s.tallies at none_counted) ≡ length s.tallies = length-set s.tallies at none_counted in
    through c s (with_in_place_of at x s) _ (given_up_at s.tallies at s.others inside f.long f.others)
    (counts_added at c most before (with_in_place_of at x s) (omega (arith, as_long, inside)) lc (replaced_formed at x s f))

lightest_within : (ws : List ℕ) (n : ℕ) → length ws ≤ n → IfSome (lightest ws) (λ at. at < n)
lightest_within [] n le = tt
lightest_within (w ∷ ws) n le =
    let found = lightest_is (w ∷ ws) (omega arith) in
    let i = found.1.1.inside in
    subst (λ (o : Option ℕ). IfSome o (λ at. at < n)) (sym found.1.0) (omega (arith, i, le))

absent_added : (x : Name) (c : Tally) (most before : ℕ) (s : Summary) → Absent x s.names → HasBuckets c → Formed s → Adds c s (with_row x c most before s)
absent_added x c most before s a lc f = elim (cases_lt (length s.names) s.statements) [
  | inl room ↦
      let test : nat_lt (length s.names) s.statements ≡ true = lt-ltb (length s.names) s.statements room in
      let p = f.places in
      let is : with_row x c most before s ≡ with_counts_at (length s.names) c most before (with_new x s) = ap (λ o. with_counts (place_or o (new_place s)) c most (before_at o before) (with_name_if o x s)) a.is ∙ rw test refl in
      subst (Adds c s) (sym is) (through c s (with_new x s) _ refl (counts_added (length s.names) c most before (with_new x s) (omega (arith, room, p)) lc (new_formed x s room f)))
  | inr full ↦
      let test : nat_lt (length s.names) s.statements ≡ false = le-ltb (length s.names) s.statements full in
      let n = f.names in
      let w = f.weights in
      let p = f.places in
      let is : with_row x c most before s ≡ with_counts (lightest s.weights) c most before (with_in_place_if (lightest s.weights) x s) = ap (λ o. with_counts (place_or o (new_place s)) c most (before_at o before) (with_name_if o x s)) a.is ∙ rw test refl in
      subst (Adds c s) (sym is) (full_added (lightest s.weights) x c most before s (lightest_within s.weights (length s.tallies) (omega (arith, n, w, p))) lc f)
]

found_added : (x : Name) (c : Tally) (most before : ℕ) (s : Summary) (at : ℕ) → Found x s.names at → HasBuckets c → Formed s → Adds c s (with_row x c most before s)
found_added x c most before s at found lc f =
    let i = found.inside in
    let n = f.names in
    let p = f.places in
    let is : with_row x c most before s ≡ with_counts_at at c most 0 s = ap (λ o. with_counts (place_or o (new_place s)) c most (before_at o before) (with_name_if o x s)) found.is in
    subst (Adds c s) (sym is) (counts_added at c most 0 s (omega (arith, i, n, p)) lc f)

row_added : (x : Name) (c : Tally) (most before : ℕ) (s : Summary) → HasBuckets c → Formed s → Adds c s (with_row x c most before s)
row_added x c most before s lc f = elim (search_name x s.names) [
  | inl (at, found) ↦ found_added x c most before s at found lc f
  | inr absent ↦ absent_added x c most before s absent lc f
]

one_added : (n : Option Name) (c : Tally) (most before : ℕ) (s : Summary) → HasBuckets c → Formed s → Adds c s (with_counts_of n c most before s)
one_added None c most before s lc f = others_added c s lc f
one_added (Some x) c most before s lc f = row_added x c most before s lc f

sums : (ps : List Part) (s : Summary) → HaveBuckets ps → Formed s → whole_of (all_added ps s) ≡ sum_of ps (whole_of s)
sums [] s have f = refl
sums (p ∷ ps) s have f =
    let a = one_added p.name p.counts p.most p.before s have.0 f in
    sums ps (with_part p s) have.1 a.formed ∙ ap (sum_of ps) a.whole

new_is_formed : (n : ℕ) → Formed (new_summary n)
new_is_formed n = record { long = new_long n; others = none_long 1920; names = omega arith; weights = refl; places = as_many n }

pub sums_are_exact : SumsAreExact
sums_are_exact n ps have = sums ps (new_summary n) have (new_is_formed n) ∙ ap (sum_of ps) (new_none n)
