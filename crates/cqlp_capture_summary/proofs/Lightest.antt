-- The lightest place of a table.
use Rattle.std.proofs.Common.{◌≡◌, ◌∙◌, ◌+◌, ◌*◌, ◌<◌, ◌≤◌, ℕ, zero, suc, List, [], ◌∷◌, ◌++◌, length, Some, inl, inr, refl, ap, arith, drop, slice_index_or, slice_set, add-one}
use Rattle.std.proofs.Math.Seq.{drop-cons}
use Rattle.std.proofs.lemmas.Bool.{cases_lt, lt-ltb, le-ltb}
use Rattle.cqlp_capture_summary.specs.Summaries.{lightest, lightest_from}

-- no place has less weight
pub record IsLeast (ws : List ℕ) (at : ℕ) : Type 0 where
  pub inside : at < length ws
  pub least : (i : ℕ) → i < length ws → slice_index_or ws at 0 ≤ slice_index_or ws i 0

-- among the places in front of one
record IsBest (ws : List ℕ) (best least place : ℕ) : Type 0 where
  inside : best < length ws
  has : slice_index_or ws best 0 ≡ least
  below : (i : ℕ) → i < place → least ≤ slice_index_or ws i 0

pub lightest_step : (ws : List ℕ) (best least place : ℕ) → place < length ws → lightest_from best least place (drop place ws) ≡ lightest_from best least place (slice_index_or ws place 0 ∷ drop (place + 1) ws)
lightest_step ws best least place inside = let e = drop-cons ws place 0 inside in rw (e, add-one) refl

pub least_kept : (ws : List ℕ) (best least place : ℕ) → place < length ws → least ≤ slice_index_or ws place 0 → lightest_from best least place (drop place ws) ≡ lightest_from best least (place + 1) (drop (place + 1) ws)
least_kept ws best least place inside le = lightest_step ws best least place inside ∙ rw (le-ltb (slice_index_or ws place 0) least le) refl

pub least_new : (ws : List ℕ) (best least place : ℕ) → place < length ws → slice_index_or ws place 0 < least → lightest_from best least place (drop place ws) ≡ lightest_from place (slice_index_or ws place 0) (place + 1) (drop (place + 1) ws)
least_new ws best least place inside lt = lightest_step ws best least place inside ∙ rw (lt-ltb (slice_index_or ws place 0) least lt) refl

drop_all : (ws : List ℕ) → drop (length ws) ws ≡ []
drop_all [] = refl
drop_all (w ∷ ws) = drop_all ws

best_from : (left : ℕ) (ws : List ℕ) (best least place : ℕ) → place + left ≡ length ws → IsBest ws best least place → IsLeast ws (lightest_from best least place (drop place ws))
best_from zero ws best least place all b =
    let e : place ≡ length ws = omega arith in
    let d : drop place ws ≡ [] = ap (λ k. drop k ws) e ∙ drop_all ws in
    rw d (record { inside = b.inside; least = λ i inside. let h = b.has in let l = b.below i (omega (arith, e)) in omega (arith, h, l) })
best_from (suc left) ws best least place all b =
    let inside : place < length ws = omega arith in
    elim (cases_lt (slice_index_or ws place 0) least) [
      | inl lt ↦
          rw (least_new ws best least place inside lt)
          (best_from left ws place (slice_index_or ws place 0) (place + 1) (omega arith) (record {
            inside = inside;
            has = refl;
            below = λ i less. elim (cases_lt i place) [
              | inl before ↦ let l = b.below i before in omega (arith, l)
              | inr here ↦ let e : i ≡ place = omega arith in let f = ap (λ k. slice_index_or ws k 0) e in omega (arith, f)
            ];
          }))
      | inr ge ↦
          rw (least_kept ws best least place inside ge)
          (best_from left ws best least (place + 1) (omega arith) (record {
            inside = b.inside;
            has = b.has;
            below = λ i less. elim (cases_lt i place) [
              | inl before ↦ b.below i before
              | inr here ↦ let e : i ≡ place = omega arith in let f = ap (λ k. slice_index_or ws k 0) e in omega (arith, f)
            ];
          }))
    ]

pub lightest_is : (ws : List ℕ) → 0 < length ws → (at : ℕ) × ((lightest ws ≡ Some at) × IsLeast ws at)
lightest_is [] some = absurd (omega arith)
lightest_is (w ∷ ws) some =
    (lightest_from 0 w 0 (w ∷ ws), (refl, best_from (length (w ∷ ws)) (w ∷ ws) 0 w 0 (omega arith) (record { inside = some; has = refl; below = λ i less. absurd (omega arith) })))

abbrev pub sum : List ℕ → ℕ
sum [] = 0
sum (w ∷ ws) = w + sum ws

pub sum_append : (ws vs : List ℕ) → sum (ws ++ vs) ≡ sum ws + sum vs
sum_append [] vs = omega arith
sum_append (w ∷ ws) vs = let later = sum_append ws vs in omega (arith, later)

pub sum_set : (ws : List ℕ) (at more : ℕ) → at < length ws → sum (slice_set ws at (slice_index_or ws at 0 + more)) ≡ sum ws + more
sum_set [] at more inside = absurd (omega arith)
sum_set (w ∷ ws) zero more inside = omega arith
sum_set (w ∷ ws) (suc at) more inside = let later = sum_set ws at more (omega arith) in omega (arith, later)

pub one_of_sum : (ws : List ℕ) (at : ℕ) → slice_index_or ws at 0 ≤ sum ws
one_of_sum [] at = omega arith
one_of_sum (w ∷ ws) zero = omega arith
one_of_sum (w ∷ ws) (suc at) = let later = one_of_sum ws at in omega (arith, later)

-- the weights together are at least so many times the least
pub sum_of_least : (ws : List ℕ) (m : ℕ) → ((i : ℕ) → i < length ws → m ≤ slice_index_or ws i 0) → length ws * m ≤ sum ws
sum_of_least [] m least = omega arith
sum_of_least (w ∷ ws) m least =
    let here = least 0 (omega arith) in
    let later = sum_of_least ws m (λ i inside. least (suc i) (omega arith)) in
    let e : suc (length ws) * m ≡ length ws * m + m = omega arith in
    rw e (omega (arith, here, later))
