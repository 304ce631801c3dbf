-- What is counted of two lists of entries together.
use Rattle.std.proofs.Common.{◌≡◌, ◌∙◌, ℕ, zero, suc, Bool, true, false, List, [], ◌∷◌, length, replicate, max, Option, Some, None, refl, sym, ap, arith, slice_index_or}
use Rattle.std.proofs.lemmas.List.{length-set}
use Rattle.cqlp_capture_summary.specs.Buckets.{bucket_of}
use Rattle.cqlp_capture_summary.specs.Counts.{Entry, Request, Tally, tally}
use Rattle.cqlp_capture_summary.specs.Heaviest.{tallied_all}
use Rattle.cqlp_capture_summary.specs.Laws.{MergeCountsBoth}
use Rattle.cqlp_capture_summary.specs.Merging.{added, merged}
use Rattle.cqlp_capture_summary.specs.Tallies.{counted, earlier, error_count, later, none_counted, tallied, tallied_request, with_answer, with_bucket, with_seen_if, with_time, with_time_if}
use Rattle.cqlp_capture_summary.proofs.Entries.{as_timed, counts_more, tallied_append}

-- sums that stay at the greatest number, once they are there, may be made in any order

pub counted_apart : (n m k : ℕ) → counted n (counted m k) ≡ counted (counted n m) k
counted_apart n m k = omega arith

pub counted_across : (n m k : ℕ) → counted (counted n k) m ≡ counted (counted n m) k
counted_across n m k = omega arith

pub max_apart : (n m k : ℕ) → max n (max m k) ≡ max (max n m) k
max_apart n m k = omega arith

pub max_across : (n m k : ℕ) → max (max n k) m ≡ max (max n m) k
max_across n m k = omega arith

-- ---- one more in a bucket, of what is added or of what it is added to

more_apart : (b : ℕ) (ms ns : List ℕ) → length ms ≡ length ns → added (with_bucket b ms) ns ≡ with_bucket b (added ms ns)
more_apart b [] [] long = refl
more_apart b [] (n ∷ ns) long = absurd (omega arith)
more_apart b (m ∷ ms) [] long = absurd (omega arith)
more_apart zero (m ∷ ms) (n ∷ ns) long = ap (λ k. k ∷ added ms ns) (counted_apart n m 1)
more_apart (suc b) (m ∷ ms) (n ∷ ns) long = ap (λ l. counted n m ∷ l) (more_apart b ms ns (omega arith))

more_across : (b : ℕ) (ms ns : List ℕ) → length ms ≡ length ns → added ms (with_bucket b ns) ≡ with_bucket b (added ms ns)
more_across b [] [] long = refl
more_across b [] (n ∷ ns) long = absurd (omega arith)
more_across b (m ∷ ms) [] long = absurd (omega arith)
more_across zero (m ∷ ms) (n ∷ ns) long = ap (λ k. k ∷ added ms ns) (counted_across n m 1)
more_across (suc b) (m ∷ ms) (n ∷ ns) long = ap (λ l. counted n m ∷ l) (more_across b ms ns (omega arith))

-- ---- one entry more, in what is added or in what it is added to

pub earlier_apart : (a b c : Option ℕ) → earlier a (earlier b c) ≡ earlier (earlier a b) c
earlier_apart None b c = refl
earlier_apart (Some a) None c = refl
earlier_apart (Some a) (Some b) None = refl
earlier_apart (Some a) (Some b) (Some c) = ap (λ n. Some n) (omega arith)

pub earlier_across : (a b c : Option ℕ) → earlier (earlier a c) b ≡ earlier (earlier a b) c
earlier_across None None None = refl
earlier_across None None (Some c) = refl
earlier_across None (Some b) None = refl
earlier_across None (Some b) (Some c) = ap (λ n. Some n) (omega arith)
earlier_across (Some a) None None = refl
earlier_across (Some a) None (Some c) = refl
earlier_across (Some a) (Some b) None = refl
earlier_across (Some a) (Some b) (Some c) = ap (λ n. Some n) (omega arith)

pub later_apart : (a b c : Option ℕ) → later a (later b c) ≡ later (later a b) c
later_apart None b c = refl
later_apart (Some a) None c = refl
later_apart (Some a) (Some b) None = refl
later_apart (Some a) (Some b) (Some c) = ap (λ n. Some n) (omega arith)

pub later_across : (a b c : Option ℕ) → later (later a c) b ≡ later (later a b) c
later_across None None None = refl
later_across None None (Some c) = refl
later_across None (Some b) None = refl
later_across None (Some b) (Some c) = ap (λ n. Some n) (omega arith)
later_across (Some a) None None = refl
later_across (Some a) None (Some c) = refl
later_across (Some a) (Some b) None = refl
later_across (Some a) (Some b) (Some c) = ap (λ n. Some n) (omega arith)

pub same_tally : (t u : Tally) → t.count ≡ u.count → t.errors ≡ u.errors → t.unanswered ≡ u.unanswered → t.rows ≡ u.rows → t.bytes ≡ u.bytes → t.first ≡ u.first → t.last ≡ u.last → t.timed ≡ u.timed → t.time ≡ u.time → t.greatest ≡ u.greatest → t.buckets ≡ u.buckets → t ≡ u
same_tally t u a b c d e f g h i j k = λ x. record {
  count = a x;
  errors = b x;
  unanswered = c x;
  rows = d x;
  bytes = e x;
  first = f x;
  last = g x;
  timed = h x;
  time = i x;
  greatest = j x;
  buckets = k x;
}

count_apart : (e : Entry) (u t : Tally) → merged (counts_more e u) t ≡ counts_more e (merged u t)
count_apart e u t =
    same_tally _ _ (counted_apart t.count u.count 1) (counted_apart t.errors u.errors (error_count e.is_error)) refl
    (counted_apart t.rows u.rows e.rows) (counted_apart t.bytes u.bytes e.bytes) refl refl refl refl refl refl

count_across : (e : Entry) (u t : Tally) → merged u (counts_more e t) ≡ counts_more e (merged u t)
count_across e u t =
    same_tally _ _ (counted_across t.count u.count 1) (counted_across t.errors u.errors (error_count e.is_error)) refl
    (counted_across t.rows u.rows e.rows) (counted_across t.bytes u.bytes e.bytes) refl refl refl refl refl refl

time_apart : (n : ℕ) (u t : Tally) → length u.buckets ≡ length t.buckets → merged (with_time n u) t ≡ with_time n (merged u t)
time_apart n u t long =
    same_tally _ _ refl refl refl refl refl refl refl (counted_apart t.timed u.timed 1) (counted_apart t.time u.time n)
    (max_apart t.greatest u.greatest n) (more_apart (bucket_of n) u.buckets t.buckets long)

time_across : (n : ℕ) (u t : Tally) → length u.buckets ≡ length t.buckets → merged u (with_time n t) ≡ with_time n (merged u t)
time_across n u t long =
    same_tally _ _ refl refl refl refl refl refl refl (counted_across t.timed u.timed 1) (counted_across t.time u.time n)
    (max_across t.greatest u.greatest n) (more_across (bucket_of n) u.buckets t.buckets long)

if_apart : (took : Option ℕ) (u t : Tally) → length u.buckets ≡ length t.buckets → merged (with_time_if took u) t ≡ with_time_if took (merged u t)
if_apart None u t long = refl
if_apart (Some n) u t long = time_apart n u t long

if_across : (took : Option ℕ) (u t : Tally) → length u.buckets ≡ length t.buckets → merged u (with_time_if took t) ≡ with_time_if took (merged u t)
if_across None u t long = refl
if_across (Some n) u t long = time_across n u t long

entry_apart : (e : Entry) (u t : Tally) → length u.buckets ≡ length t.buckets → merged (tallied e u) t ≡ tallied e (merged u t)
entry_apart e u t long = if_apart e.took (counts_more e u) t long ∙ ap (with_time_if e.took) (count_apart e u t)

entry_across : (e : Entry) (u t : Tally) → length u.buckets ≡ length t.buckets → merged u (tallied e t) ≡ tallied e (merged u t)
entry_across e u t long = if_across e.took u (counts_more e t) long ∙ ap (with_time_if e.took) (count_across e u t)

answer_apart : (a : Bool) (u t : Tally) → merged (with_answer a u) t ≡ with_answer a (merged u t)
answer_apart true u t = refl
answer_apart false u t = same_tally _ _ refl refl (counted_apart t.unanswered u.unanswered 1) refl refl refl refl refl refl refl refl

answer_across : (a : Bool) (u t : Tally) → merged u (with_answer a t) ≡ with_answer a (merged u t)
answer_across true u t = refl
answer_across false u t = same_tally _ _ refl refl (counted_across t.unanswered u.unanswered 1) refl refl refl refl refl refl refl refl

seen_apart : (at : Option ℕ) (u t : Tally) → merged (with_seen_if at u) t ≡ with_seen_if at (merged u t)
seen_apart None u t = refl
seen_apart (Some n) u t =
    same_tally _ _ refl refl refl refl refl (earlier_apart t.first u.first (Some n)) (later_apart t.last u.last (Some n)) refl refl refl refl

seen_across : (at : Option ℕ) (u t : Tally) → merged u (with_seen_if at t) ≡ with_seen_if at (merged u t)
seen_across None u t = refl
seen_across (Some n) u t =
    same_tally _ _ refl refl refl refl refl (earlier_across t.first u.first (Some n)) (later_across t.last u.last (Some n)) refl refl refl refl

one_apart : (r : Request) (u t : Tally) → length u.buckets ≡ length t.buckets → merged (tallied_request r u) t ≡ tallied_request r (merged u t)
one_apart r u t long =
    seen_apart r.at (with_answer r.is_answered (tallied r.entry u)) t
    ∙ ap (with_seen_if r.at) (answer_apart r.is_answered (tallied r.entry u) t ∙ ap (with_answer r.is_answered) (entry_apart r.entry u t long))

one_across : (r : Request) (u t : Tally) → length u.buckets ≡ length t.buckets → merged u (tallied_request r t) ≡ tallied_request r (merged u t)
one_across r u t long =
    seen_across r.at u (with_answer r.is_answered (tallied r.entry t))
    ∙ ap (with_seen_if r.at) (answer_across r.is_answered u (tallied r.entry t) ∙ ap (with_answer r.is_answered) (entry_across r.entry u t long))

-- ---- all of them

if_long : (took : Option ℕ) (t : Tally) → length (with_time_if took t).buckets ≡ length t.buckets
if_long None t = refl
if_long (Some n) t = length-set t.buckets (bucket_of n) (counted (slice_index_or t.buckets (bucket_of n) 0) 1)

one_long : (r : Request) (t : Tally) → length (tallied_request r t).buckets ≡ length t.buckets
one_long r t = ap length (as_timed r t).buckets ∙ if_long r.entry.took (counts_more r.entry t)

all_long : (es : List Request) (t : Tally) → length (tallied_all es t).buckets ≡ length t.buckets
all_long [] t = refl
all_long (e ∷ es) t = all_long es (tallied_request e t) ∙ one_long e t

all_apart : (es : List Request) (u t : Tally) → length u.buckets ≡ length t.buckets → merged (tallied_all es u) t ≡ tallied_all es (merged u t)
all_apart [] u t long = refl
all_apart (e ∷ es) u t long = all_apart es (tallied_request e u) t (one_long e u ∙ long) ∙ ap (tallied_all es) (one_apart e u t long)

all_across : (es : List Request) (u t : Tally) → length u.buckets ≡ length t.buckets → merged u (tallied_all es t) ≡ tallied_all es (merged u t)
all_across [] u t long = refl
all_across (e ∷ es) u t long = all_across es u (tallied_request e t) (long ∙ sym (one_long e t)) ∙ ap (tallied_all es) (one_across e u t long)

no_buckets : (n : ℕ) → added (replicate n 0) (replicate n 0) ≡ replicate n 0
no_buckets zero = refl
no_buckets (suc n) = ap (λ l. 0 ∷ l) (no_buckets n)

pub none_merged : merged none_counted none_counted ≡ none_counted
none_merged = ap (tally 0 0 0 0 0 None None 0 0 0) (no_buckets 1920)

pub merge_counts_both : MergeCountsBoth
merge_counts_both xs ys =
    all_apart ys none_counted (tallied_all xs none_counted) (sym (all_long xs none_counted))
    ∙ ap (tallied_all ys) (all_across xs none_counted none_counted refl ∙ ap (tallied_all xs) none_merged)
    ∙ sym (tallied_append xs ys none_counted)
