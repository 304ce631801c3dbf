-- The time at a rank.
use Rattle.std.proofs.Common.{◌≡◌, ◌∙◌, ◌+◌, ◌-◌, ◌*◌, ◌%◌, ◌^◌, ◌<◌, ◌≤◌, ℕ, zero, suc, Bool, true, false, List, [], ◌∷◌, length, Some, inl, inr, refl, sym, ap, arith, nat_le, nat_lt, slice_index_or, slice_set}
use Rattle.std.proofs.Math.Nat.{add-mul}
use Rattle.std.proofs.lemmas.Bool.{cases_lt, lt-ltb, le-ltb, ltb-true, le-leb, lt-leb, leb-true}
use Rattle.std.proofs.lemmas.List.{length-set}
use Rattle.std.proofs.lemmas.Nat.{pow-add}
use Rattle.std.proofs.lemmas.List.Elements.{All-head, All-tail}
use Rattle.std.specs.List.{filter, All}
use Rattle.cqlp_capture_summary.specs.Buckets.{bucket_of, digits_in, least_in}
use Rattle.cqlp_capture_summary.specs.Laws.{IsAtRank}
use Rattle.cqlp_capture_summary.specs.Tallies.{bucket_at, counted, with_bucket}
use Rattle.cqlp_capture_summary.proofs.Bounds.{bucket_within, in_bucket, width_some}

-- ---- buckets lie one behind the other

next_in : (k d : ℕ) → 32 * d ≤ k → (k + 1 - 32 * d) * 2 ^ d ≡ (k - 32 * d) * 2 ^ d + 2 ^ d
next_in k d within =
    let e : k + 1 - 32 * d ≡ (k - 32 * d) + 1 = omega arith in
    ap (λ m. m * 2 ^ d) e ∙ add-mul (k - 32 * d) 1 (2 ^ d) ∙ ap (λ n. (k - 32 * d) * 2 ^ d + n) (omega arith)

-- the last bucket of a width, and the first of the next
next_up : (k d : ℕ) → k ≡ 32 * d + 63 → (k + 1 - 32 * (d + 1)) * 2 ^ (d + 1) ≡ (k - 32 * d) * 2 ^ d + 2 ^ d
next_up k d is =
    let m : k + 1 - 32 * (d + 1) ≡ 32 = omega arith in
    let n : k - 32 * d ≡ 63 = omega arith in
    let p = pow-add 2 d 1 in
    rw (m, n) (omega (arith, p))

digits_same : (k : ℕ) → k % 32 < 31 → digits_in (k + 1) ≡ digits_in k
digits_same k less = omega arith

least_same : (k d : ℕ) → digits_in k ≡ d → digits_in (k + 1) ≡ d → 32 * d ≤ k → least_in (k + 1) ≡ least_in k + 2 ^ digits_in k
least_same k d e f within = rw (e, f) (next_in k d within)

least_more : (k d : ℕ) → digits_in k ≡ d → digits_in (k + 1) ≡ d + 1 → k ≡ 32 * d + 63 → least_in (k + 1) ≡ least_in k + 2 ^ digits_in k
least_more k d e f is = rw (e, f) (next_up k d is)

least_next : (k : ℕ) → least_in (k + 1) ≡ least_in k + 2 ^ digits_in k
least_next k = elim (cases_lt (k % 32) 31) [
  | inl lt ↦ least_same k (digits_in k) refl (digits_same k lt) (omega arith)
  | inr ge ↦ elim (cases_lt k 32) [
    | inl low ↦ least_same k 0 (omega arith) (omega arith) (omega arith)
    | inr high ↦ least_more k (digits_in k) refl (omega arith) (omega arith)
  ]
]

least_up : (k n : ℕ) → least_in k ≤ least_in (k + n)
least_up k zero = let e : k + 0 ≡ k = omega arith in rw e (omega arith)
least_up k (suc n) = let e = least_next (k + n) in let up = least_up k n in let same : k + suc n ≡ k + n + 1 = omega arith in rw same (omega (arith, e, up))

pub in_order : (t u : ℕ) → t < 2 ^ 64 → u < 2 ^ 64 → t ≤ u → bucket_of t ≤ bucket_of u
in_order t u tf uf le = elim (cases_lt (bucket_of u) (bucket_of t)) [
  | inl lt ↦
      let a = (in_bucket t tf).low in
      let b = (in_bucket u uf).high in
      let w = width_some (digits_in (bucket_of u)) in
      let n = bucket_of t - (bucket_of u + 1) in
      let same : bucket_of u + 1 + n ≡ bucket_of t = omega arith in
      let up : least_in (bucket_of u + 1) ≤ least_in (bucket_of t) = rw (sym same) (least_up (bucket_of u + 1) n) in
      let e = least_next (bucket_of u) in
      absurd (omega (arith, a, b, w, up, e))
  | inr ge ↦ ge
]

-- ---- how many are in the first buckets

abbrev pub front_sum : (count : ℕ) → List ℕ → ℕ
front_sum zero ns = 0
front_sum (suc p) [] = 0
front_sum (suc p) (n ∷ ns) = n + front_sum p ns

pub first_found : (ns : List ℕ) (rank k p : ℕ) → p < length ns → front_sum p ns < rank → rank ≤ front_sum (suc p) ns → bucket_at rank k ns ≡ Some (k + p)
first_found [] rank k p within below reached = absurd (omega arith)
first_found (n ∷ ns) rank k zero within below reached = rw (le-leb rank n (omega arith)) (ap (λ b. Some b) (omega arith))
first_found (n ∷ ns) rank k (suc p) within below reached =
    let b : n + front_sum p ns < rank = below in
    let r : rank ≤ n + front_sum (suc p) ns = reached in
    rw (lt-leb rank n (omega arith)) (first_found ns (rank - n) (k + 1) p (omega arith) (omega arith) (omega arith) ∙ ap (λ b. Some b) (omega arith))

front_more : (ns : List ℕ) (p : ℕ) → length ns ≤ p → front_sum p ns ≡ front_sum (length ns) ns
front_more [] zero all = refl
front_more [] (suc p) all = refl
front_more (n ∷ ns) zero all = absurd (omega arith)
front_more (n ∷ ns) (suc p) all = ap (λ m. n + m) (front_more ns p (omega arith))

abbrev one_if : Bool → ℕ
one_if true = 1
one_if false = 0

-- no number is more than all together
part_of : (ns : List ℕ) (b : ℕ) → slice_index_or ns b 0 ≤ front_sum (length ns) ns
part_of [] b = omega arith
part_of (n ∷ ns) zero = omega arith
part_of (n ∷ ns) (suc b) = omega (arith, part_of ns b)

same_test : (b p : ℕ) → nat_lt (suc b) (suc p) ≡ nat_lt b p
same_test b p = elim (cases_lt b p) [
  | inl lt ↦ lt-ltb (suc b) (suc p) (omega arith) ∙ sym (lt-ltb b p lt)
  | inr ge ↦ le-ltb (suc b) (suc p) (omega arith) ∙ sym (le-ltb b p ge)
]

-- one more in a bucket
set_sum : (ns : List ℕ) (b p v : ℕ) → b < length ns → v ≡ slice_index_or ns b 0 + 1 → front_sum p (slice_set ns b v) ≡ front_sum p ns + one_if (nat_lt b p)
set_sum [] b p v within is = absurd (omega arith)
set_sum (n ∷ ns) zero zero v within is = refl
set_sum (n ∷ ns) zero (suc p) v within is = rw (lt-ltb 0 (suc p) (omega arith)) (omega arith)
set_sum (n ∷ ns) (suc b) zero v within is = rw (le-ltb (suc b) 0 (omega arith)) (omega arith)
set_sum (n ∷ ns) (suc b) (suc p) v within is = rw (same_test b p) (omega (arith, set_sum ns b p v (omega arith) is))

pub with_one : (ns : List ℕ) (b p : ℕ) → b < length ns → front_sum (length ns) ns + 1 < 2 ^ 64 → front_sum p (with_bucket b ns) ≡ front_sum p ns + one_if (nat_lt b p)
with_one ns b p within fits =
    let part = part_of ns b in
    set_sum ns b p (counted (slice_index_or ns b 0) 1) within (omega (arith, part))

one_below : (b : Bool) → one_if b ≤ 1
one_below true = omega arith
one_below false = omega arith

-- ---- the buckets of times

abbrev pub buckets_after : (times : List ℕ) → List ℕ → List ℕ
buckets_after [] ns = ns
buckets_after (t ∷ ts) ns = buckets_after ts (with_bucket (bucket_of t) ns)

abbrev is_in_front : (count : ℕ) → (time : ℕ) → Bool
is_in_front p t = nat_lt (bucket_of t) p

by_test : (b : Bool) (p : ℕ → Bool) (t : ℕ) (ts : List ℕ) → p t ≡ b → length (filter p (t ∷ ts)) ≡ one_if (p t) + length (filter p ts)
by_test true p t ts e = rw e (omega arith)
by_test false p t ts e = rw e (omega arith)

length_first : (p : ℕ → Bool) (t : ℕ) (ts : List ℕ) → length (filter p (t ∷ ts)) ≡ one_if (p t) + length (filter p ts)
length_first p t ts = by_test (p t) p t ts refl

length_after : (ts ns : List ℕ) → length (buckets_after ts ns) ≡ length ns
length_after [] ns = refl
length_after (t ∷ ts) ns = length_after ts (with_bucket (bucket_of t) ns) ∙ length-set ns (bucket_of t) (counted (slice_index_or ns (bucket_of t) 0) 1)

pub sum_after : (ts ns : List ℕ) (p : ℕ) → All (λ t. t < 2 ^ 64) ts → length ns ≡ 1920 → front_sum 1920 ns + length ts < 2 ^ 64 → front_sum p (buckets_after ts ns) ≡ front_sum p ns + length (filter (is_in_front p) ts)
sum_after [] ns p small long fits = omega arith
sum_after (t ∷ ts) ns p small long fits =
    let b = bucket_of t in
    let tf : t < 2 ^ 64 = All-head (λ u. u < 2 ^ 64) t ts small in
    let inside : b < length ns = let w = bucket_within t tf in omega (arith, w) in
    let room : front_sum (length ns) ns + 1 < 2 ^ 64 = rw long (omega arith) in
    let here = with_one ns b p inside room in
    let whole = with_one ns b 1920 inside room in
    let some = one_below (nat_lt b 1920) in
    let longer : length (with_bucket b ns) ≡ 1920 = length-set ns b (counted (slice_index_or ns b 0) 1) ∙ long in
    let later = sum_after ts (with_bucket b ns) p (All-tail (λ u. u < 2 ^ 64) t ts small) longer (omega (arith, whole, some)) in
    later ∙ omega (arith, here, length_first (is_in_front p) t ts)

-- ---- tests of times

one_more : (b c : Bool) → (b ≡ true → c ≡ true) → one_if b ≤ one_if c
one_more true c implies = let e : one_if c ≡ 1 = ap one_if (implies refl) in omega (arith, e)
one_more false c implies = omega arith

filter_more : (p q : ℕ → Bool) (ts : List ℕ) → All (λ t. p t ≡ true → q t ≡ true) ts → length (filter p ts) ≤ length (filter q ts)
filter_more p q [] implies = omega arith
filter_more p q (t ∷ ts) implies =
    let later = filter_more p q ts (All-tail (λ u. p u ≡ true → q u ≡ true) t ts implies) in
    let here = one_more (p t) (q t) (All-head (λ u. p u ≡ true → q u ≡ true) t ts implies) in
    omega (arith, later, here, length_first p t ts, length_first q t ts)

pub filter_some : (p : ℕ → Bool) (ts : List ℕ) → length (filter p ts) ≤ length ts
filter_some p [] = omega arith
filter_some p (t ∷ ts) = omega (arith, filter_some p ts, length_first p t ts, one_below (p t))

pub filter_all : (p : ℕ → Bool) (ts : List ℕ) → All (λ t. p t ≡ true) ts → length (filter p ts) ≡ length ts
filter_all p [] all = refl
filter_all p (t ∷ ts) all =
    let e = All-head (λ u. p u ≡ true) t ts all in
    let f : one_if (p t) ≡ 1 = ap one_if e in
    omega (arith, f, filter_all p ts (All-tail (λ u. p u ≡ true) t ts all), length_first p t ts)

-- ---- the bucket of the time at a rank

front_of_less : (ts : List ℕ) (time : ℕ) → All (λ t. t < 2 ^ 64) ts → time < 2 ^ 64 → All (λ t. is_in_front (bucket_of time) t ≡ true → nat_lt t time ≡ true) ts
front_of_less ts time small tf = λ k d within e.
    let t = slice_index_or ts k d in
    let in_front = ltb-true (bucket_of t) (bucket_of time) e in
    elim (cases_lt t time) [
      | inl lt ↦ lt-ltb t time lt
      | inr ge ↦ let o = in_order time t tf (small k d within) ge in absurd (omega (arith, in_front, o))
    ]

front_of_most : (ts : List ℕ) (time : ℕ) → All (λ t. t < 2 ^ 64) ts → time < 2 ^ 64 → All (λ t. nat_le t time ≡ true → is_in_front (suc (bucket_of time)) t ≡ true) ts
front_of_most ts time small tf = λ k d within e.
    let t = slice_index_or ts k d in
    let below = leb-true t time e in
    let o = in_order t time (small k d within) tf below in
    lt-ltb (bucket_of t) (suc (bucket_of time)) (omega (arith, o))

-- in buckets where nothing was before
pub found_in : (ts ns : List ℕ) (rank time : ℕ) → All (λ t. t < 2 ^ 64) ts → time < 2 ^ 64 → length ts < 2 ^ 64 → length ns ≡ 1920 → ((p : ℕ) → front_sum p ns ≡ 0) → IsAtRank rank ts time → bucket_at rank 0 (buckets_after ts ns) ≡ Some (bucket_of time)
found_in ts ns rank time small tf few long none at =
    let b = bucket_of time in
    let ms = buckets_after ts ns in
    let fits : front_sum 1920 ns + length ts < 2 ^ 64 = let z = none 1920 in omega (arith, z) in
    let below : front_sum b ms < rank = let e = sum_after ts ns b small long fits in let z = none b in let m = filter_more (is_in_front b) (λ t. nat_lt t time) ts (front_of_less ts time small tf) in let l = at.below in omega (arith, e, z, m, l) in
    let reached : rank ≤ front_sum (suc b) ms = let e = sum_after ts ns (suc b) small long fits in let z = none (suc b) in let m = filter_more (λ t. nat_le t time) (is_in_front (suc b)) ts (front_of_most ts time small tf) in let l = at.within in omega (arith, e, z, m, l) in
    let inside : b < length ms = let w = bucket_within time tf in let e = length_after ts ns in omega (arith, w, e) in
    first_found ms rank 0 b inside below reached ∙ ap (λ k. Some k) (omega arith)
