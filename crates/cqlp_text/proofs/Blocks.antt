-- Bytes that are looked at many at once.
use Rattle.std.proofs.Common.{◌≡◌, ℕ, ◌+◌, ◌-◌, ◌<◌, ◌≤◌, ◌==◌, ◌&&◌, ◌∙◌, Bool, true, false, not, nat_lt, List, map, length, slice_index, refl, sym, ap, arith}
use Rattle.std.proofs.lemmas.Simd.{leading_from_mask_l, get_or-chunk}
use Rattle.std.proofs.lemmas.List.Sums.{prefix_len_passes}
use Rattle.std.proofs.lemmas.Bool.{le-leb, ltb-false}
use lib.Lanes.{mask_l, chunk}
use Rattle.cqlp_text.specs.Text.{is_plain}

refuted : (d : Bool) → not d ≡ true → d ≡ false
refuted true e = sym e
refuted false e = refl

-- where no bit is set, no byte passes the test
pub none_in_mask : (p : ℕ → Bool) (xs : List ℕ) → mask_l (map p xs) ≡ 0 → (k : ℕ) → k < length xs → p (slice_index xs k) ≡ false
none_in_mask p xs none k within =
    refuted (p (slice_index xs k)) (prefix_len_passes (λ x. not (p x)) xs k 0 (omega (arith, leading_from_mask_l p xs none)))

both : (a b : Bool) → (a && b) ≡ true → (a ≡ true) × (b ≡ true)
both true b e = (refl, e)
both false b e = cc

plain_of : (x : ℕ) → nat_lt x 32 ≡ false → (x == 34) ≡ false → (x == 92) ≡ false → (x == 127) ≡ false → is_plain x ≡ true
plain_of x low quote backslash delete = rw (le-leb 32 x (ltb-false x 32 low), quote, backslash, delete) refl

-- no byte of a block passes the test
abbrev pub NoneOf : (ℕ → Bool) → List ℕ → Type 0
NoneOf p block = (k : ℕ) → k < 16 → p (slice_index block k) ≡ false

-- none of the bytes from at on that were looked at needs an escape
pub plain_block : (xs : List ℕ) (at : ℕ) (a b c d : Bool) → (a ≡ true → NoneOf (λ x. nat_lt x 32) (chunk at 16 xs)) → (b ≡ true → NoneOf (λ x. x == 34) (chunk at 16 xs)) → (c ≡ true → NoneOf (λ x. x == 92) (chunk at 16 xs)) → (d ≡ true → NoneOf (λ x. x == 127) (chunk at 16 xs))
    → (a && b && c && d) ≡ true → (k : ℕ) → at ≤ k → k < at + 16 → is_plain (slice_index xs k) ≡ true
plain_block xs at a b c d low quote backslash delete all k from below =
    let last = both (a && b && c) d all in
    let third = both (a && b) c last.0 in
    let second = both a b third.0 in
    let j = k - at in
    let near : j < 16 = omega arith in
    let place : at + j ≡ k = omega arith in
    let same : slice_index (chunk at 16 xs) j ≡ slice_index xs k = get_or-chunk at 16 xs j 0 near ∙ ap (λ i. slice_index xs i) place in
    ap is_plain (sym same) ∙ plain_of (slice_index (chunk at 16 xs) j) (low second.0 j near) (quote second.1 j near) (backslash third.1 j near) (delete last.1 j near)
