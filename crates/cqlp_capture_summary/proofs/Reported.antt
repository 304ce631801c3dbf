-- What is reported of the time at a rank.
use Rattle.std.proofs.Common.{◌≡◌, ◌∙◌, ◌-◌, ◌*◌, ◌≤◌, ℕ, zero, suc, List, [], ◌∷◌, replicate, Option, Some, None, inl, inr, refl, ap, subst, arith, nat_le, nat_lt, min, max, slice_index_or}
use Rattle.std.proofs.lemmas.Bool.{cases_lt, lt-ltb}
use Rattle.std.proofs.lemmas.List.{length-replicate}
use Rattle.std.proofs.lemmas.List.Elements.{All-cons, All-nil}
use Rattle.std.specs.List.{All}
use Rattle.cqlp_capture_summary.specs.Buckets.{bucket_of, greatest_in}
use Rattle.cqlp_capture_summary.specs.Counts.{Request, Tally}
use Rattle.cqlp_capture_summary.specs.Heaviest.{tallied_all}
use Rattle.cqlp_capture_summary.specs.Laws.{IsAtRank, ReportsTimeAtRank, times_in, with_known}
use Rattle.cqlp_capture_summary.specs.Tallies.{bucket_at, none_counted, tallied_request, time_in, with_time_if}
use Rattle.cqlp_capture_summary.proofs.Bounds.{in_bucket}
use Rattle.cqlp_capture_summary.proofs.Entries.{as_timed, counts_more}
use Rattle.cqlp_capture_summary.proofs.Ranks.{buckets_after, filter_all, filter_some, found_in, front_sum}

timed : (took : Option ℕ) (times : List ℕ) (t : Tally) → buckets_after times (with_time_if took t).buckets ≡ buckets_after (with_known took times) t.buckets
timed None times t = refl
timed (Some n) times t = refl

buckets_of : (os : List Request) (t : Tally) → (tallied_all os t).buckets ≡ buckets_after (times_in os) t.buckets
buckets_of [] t = refl
buckets_of (o ∷ os) t =
    buckets_of os (tallied_request o t) ∙ ap (buckets_after (times_in os)) (as_timed o t).buckets ∙ timed o.entry.took (times_in os) (counts_more o.entry t)

grown : (took : Option ℕ) (times : List ℕ) (t : Tally) (most : ℕ) → (with_time_if took t).greatest ≤ most → All (λ n. n ≤ most) times → (t.greatest ≤ most) × All (λ n. n ≤ most) (with_known took times)
grown None times t most le all = (le, all)
grown (Some n) times t most le all = let l : max t.greatest n ≤ most = le in (omega arith, All-cons (λ m. m ≤ most) n times (omega arith) all)

greatest_of : (os : List Request) (t : Tally) → (t.greatest ≤ (tallied_all os t).greatest) × All (λ n. n ≤ (tallied_all os t).greatest) (times_in os)
greatest_of [] t = (omega arith, All-nil (λ n. n ≤ t.greatest))
greatest_of (o ∷ os) t =
    let later = greatest_of os (tallied_request o t) in
    let most = (tallied_all os (tallied_request o t)).greatest in
    let le : (with_time_if o.entry.took (counts_more o.entry t)).greatest ≤ most = subst (λ n. n ≤ most) (as_timed o t).greatest later.0 in
    grown o.entry.took (times_in os) (counts_more o.entry t) most le later.1

nothing_in : (n p : ℕ) → front_sum p (replicate n 0) ≡ 0
nothing_in zero zero = refl
nothing_in zero (suc p) = refl
nothing_in (suc n) zero = refl
nothing_in (suc n) (suc p) = omega (arith, nothing_in n p)

reached : (ts : List ℕ) (rank time most : ℕ) → All (λ n. n ≤ most) ts → IsAtRank rank ts time → time ≤ most
reached ts rank time most all at = elim (cases_lt most time) [
  | inl lt ↦
      let every = filter_all (λ t. nat_lt t time) ts (λ k d within. let l = all k d within in lt-ltb (slice_index_or ts k d) time (omega arith)) in
      let some = filter_some (λ t. nat_le t time) ts in
      let b = at.below in
      let w = at.within in
      absurd (omega (arith, every, some, b, w))
  | inr ge ↦ ge
]

reported_of : (high time most : ℕ) → time ≤ high → 32 * (high - time) ≤ time → time ≤ most → (time ≤ min high most) × (32 * (min high most - time) ≤ time)
reported_of high time most above near le = (omega arith, omega arith)

reported_in : (found : Option ℕ) (b time most : ℕ) → found ≡ Some b → time ≤ greatest_in b → 32 * (greatest_in b - time) ≤ time → time ≤ most → (time ≤ time_in found most) × (32 * (time_in found most - time) ≤ time)
reported_in found b time most is high near le = rw is (reported_of (greatest_in b) time most high near le)

pub reports_time_at_rank : ReportsTimeAtRank
reports_time_at_rank os rank time few small tf at =
    let found : bucket_at rank 0 (tallied_all os none_counted).buckets ≡ Some (bucket_of time) =
    ap (bucket_at rank 0) (buckets_of os none_counted) ∙ found_in (times_in os) (replicate 1920 0) rank time small tf few (length-replicate {A = ℕ} 1920 0) (nothing_in 1920) at in
    let i = in_bucket time tf in
    let most = (greatest_of os none_counted).1 in
    reported_in _ (bucket_of time) time (tallied_all os none_counted).greatest found i.high i.near (reached (times_in os) rank time (tallied_all os none_counted).greatest most at)
