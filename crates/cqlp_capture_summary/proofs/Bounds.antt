-- Numbers of buckets.
use Rattle.std.proofs.Common.{◌≡◌, ◌∙◌, ◌+◌, ◌-◌, ◌*◌, ◌/◌, ◌%◌, ◌^◌, ◌<◌, ◌≤◌, ℕ, zero, suc, ap, arith, Fits, w64}
use Rattle.std.proofs.Math.Nat.{div-lt_iff_lt-mul, le-div_iff_mul-le, pow-le-pow_right, one-le-pow, mul-le-mul, mul-le-mul_right, div-mul-le_self, lt-div-mul-add}
use Rattle.std.proofs.lemmas.Nat.{leading_top, pow-add}
use Rattle.std.specs.Int.Count.{count_leading_zeros, leading_of_zero}
use Rattle.cqlp_capture_summary.specs.Buckets.{bucket_of, digits_in, dropped, greatest_in, least_in}

six : (d : ℕ) → 2 ^ (d + 6) ≡ 64 * 2 ^ d
six d = omega (arith, pow-add 2 d 6)

five : (d : ℕ) → 2 ^ (d + 5) ≡ 32 * 2 ^ d
five d = omega (arith, pow-add 2 d 5)

-- the greatest of the buckets' widths
pub width_fits : (d : ℕ) → d ≤ 58 → 2 ^ d ≤ 2 ^ 58
width_fits d few = pow-le-pow_right {n = 2} (omega arith) few

pub width_some : (d : ℕ) → 1 ≤ 2 ^ d
width_some d = one-le-pow d 2 (omega arith)

quotient_below : (time d : ℕ) → time < 64 * 2 ^ d → time / 2 ^ d < 64
quotient_below time d less = (div-lt_iff_lt-mul {k = 2 ^ d} {x = time} {y = 64} (width_some d)).1 less

quotient_from : (time d : ℕ) → 32 * 2 ^ d ≤ time → 32 ≤ time / 2 ^ d
quotient_from time d more = (le-div_iff_mul-le {k = 2 ^ d} {x = 32} {y = time} (width_some d)).1 more

-- how a time is cut: six binary digits at most are left, and six where others are passed over
pub record Cut (time d : ℕ) : Type 0 where
  pub few : d ≤ 58
  pub below : time / 2 ^ d < 64
  pub from : 0 < d → 32 ≤ time / 2 ^ d

cut_at : (time lz top : ℕ) → lz + suc top ≡ 64 → 2 ^ top ≤ time → time < 2 ^ suc top → Cut time (58 - lz)
cut_at time lz top is low high =
    let d = 58 - lz in
    let far : 2 ^ suc top ≤ 2 ^ (d + 6) = pow-le-pow_right {n = 2} (omega arith) {i = suc top} {j = d + 6} (omega arith) in
    record {
      few = omega arith;
      below = quotient_below time d (omega (arith, six d, far));
      from = λ some. quotient_from time d (let e : top ≡ d + 5 = omega arith in let f : 2 ^ top ≡ 2 ^ (d + 5) = ap (λ n. 2 ^ n) e in omega (arith, five d, f));
    }

cut_zero : Cut zero (58 - count_leading_zeros 64 zero)
cut_zero = rw (leading_of_zero 64) (record { few = omega arith; below = omega arith; from = λ some. absurd (omega arith) })

pub cut_of : (time : ℕ) → time < 2 ^ 64 → Cut time (dropped time)
cut_of zero fits = cut_zero
cut_of (suc n) fits = let t = leading_top 64 (suc n) (omega arith) fits in cut_at (suc n) (count_leading_zeros 64 (suc n)) t.0 t.1 t.2 t.3

pub bucket_within : (time : ℕ) → time < 2 ^ 64 → bucket_of time < 1920
bucket_within time fits = let c = cut_of time fits in omega (arith, c.few, c.below)

-- ---- the greatest time in a bucket

pub least_fits : (bucket : ℕ) → bucket < 1920 → least_in bucket + 2 ^ digits_in bucket ≤ 2 ^ 64
least_fits bucket within =
    let d = digits_in bucket in
    let w = width_fits d (omega arith) in
    let m : (bucket - 32 * d) * 2 ^ d ≤ 63 * 2 ^ 58 = mul-le-mul {n₁ = bucket - 32 * d} {m₁ = 2 ^ d} {n₂ = 63} {m₂ = 2 ^ 58} (omega arith) w in
    omega (arith, m, w)

-- as it is computed
pub width_of : (d : ℕ) → d ≤ 58 → 1 * 2 ^ d % 18446744073709551616 ≡ 2 ^ d
width_of d few = let w = width_fits d few in omega (arith, w)

greatest_fits : (bucket d : ℕ) → bucket < 1920 → d ≡ digits_in bucket → (bucket - 32 * d) * (1 * 2 ^ d % 18446744073709551616) + (1 * 2 ^ d % 18446744073709551616) ≤ 2 ^ 64
greatest_fits bucket d within same = rw (width_of d (omega arith), same) (least_fits bucket within)

in_range : (m w : ℕ) → 1 ≤ w → m + w ≤ 2 ^ 64 → Fits w64 m × Fits w64 (m + (w - 1))
in_range m w some fits = (omega arith, omega arith)

pub greatest_in_range : (bucket d : ℕ) → bucket < 1920 → d ≡ digits_in bucket → Fits w64 ((bucket - 32 * d) * (1 * 2 ^ d % 18446744073709551616)) × Fits w64 ((bucket - 32 * d) * (1 * 2 ^ d % 18446744073709551616) + (1 * 2 ^ d % 18446744073709551616 - 1))
greatest_in_range bucket d within same =
    in_range ((bucket - 32 * d) * (1 * 2 ^ d % 18446744073709551616)) (1 * 2 ^ d % 18446744073709551616)
    (rw (width_of d (omega arith)) (width_some d)) (greatest_fits bucket d within same)

-- ---- a time in its bucket

pub record InBucket (time : ℕ) : Type 0 where
  pub low : least_in (bucket_of time) ≤ time
  pub high : time ≤ greatest_in (bucket_of time)
  pub near : 32 * (greatest_in (bucket_of time) - time) ≤ time

digits_of : (d q : ℕ) → q < 64 → (0 < d → 32 ≤ q) → digits_in (32 * d + q) ≡ d
digits_of zero q below from = omega arith
digits_of (suc d) q below from = let f = from (omega arith) in omega (arith, f)

least_of : (d q : ℕ) → q < 64 → (0 < d → 32 ≤ q) → least_in (32 * d + q) ≡ q * 2 ^ d
least_of d q below from =
    let m : 32 * d + q - 32 * d ≡ q = omega arith in
    ap (λ k. (32 * d + q - 32 * k) * 2 ^ k) (digits_of d q below from) ∙ ap (λ n. n * 2 ^ d) m

near : (time d q : ℕ) → q * 2 ^ d ≤ time → time < q * 2 ^ d + 2 ^ d → (0 < d → 32 ≤ q) → 32 * (q * 2 ^ d + (2 ^ d - 1) - time) ≤ time
near time zero q low high from = omega arith
near time (suc d) q low high from =
    let m : 32 * 2 ^ suc d ≤ q * 2 ^ suc d = mul-le-mul_right {m = 32} {n = q} (2 ^ suc d) (from (omega arith)) in
    omega (arith, m)

pub in_bucket : (time : ℕ) → time < 2 ^ 64 → InBucket time
in_bucket time fits =
    let c = cut_of time fits in
    let d = dropped time in
    let q = time / 2 ^ d in
    let l = least_of d q c.below c.from in
    let w : 2 ^ digits_in (32 * d + q) ≡ 2 ^ d = ap (λ k. 2 ^ k) (digits_of d q c.below c.from) in
    let low : q * 2 ^ d ≤ time = div-mul-le_self time (2 ^ d) in
    let high : time < q * 2 ^ d + 2 ^ d = lt-div-mul-add {a = time} {b = 2 ^ d} (width_some d) in
    record {
      low = rw l low;
      high = rw (l, w) (omega (arith, high));
      near = rw (l, w) (near time d q low high c.from);
    }
