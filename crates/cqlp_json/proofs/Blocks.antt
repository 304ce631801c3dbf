-- Bytes that are looked at many at once.
use Rattle.std.proofs.Common.{◌≡◌, ℕ, ◌+◌, ◌-◌, ◌<◌, ◌≤◌, ◌==◌, ◌&&◌, ◌∙◌, Bool, true, false, nat_lt, List, slice_index, refl, sym, ap, arith}
use Rattle.std.proofs.lemmas.Simd.{get_or-chunk}
use Rattle.std.proofs.lemmas.Bool.{le-leb, ltb-false}
use lib.Lanes.{chunk}
use Rattle.cqlp_text.proofs.Blocks.{NoneOf}
use Rattle.cqlp_json.specs.Strings.{is_plain}

both : (a b : Bool) → (a && b) ≡ true → (a ≡ true) × (b ≡ true)
both true b e = (refl, e)
both false b e = cc

plain_of : (x : ℕ) → nat_lt x 32 ≡ false → (x == 34) ≡ false → (x == 92) ≡ false → (x == 127) ≡ false → (x == 194) ≡ false → is_plain x ≡ true
plain_of x low quote backslash delete lead = rw (le-leb 32 x (ltb-false x 32 low), quote, backslash, delete, lead) refl

-- none of the bytes from at on that were looked at needs an escape
pub plain_block : (xs : List ℕ) (at : ℕ) (a b c d e : Bool) → (a ≡ true → NoneOf (λ x. nat_lt x 32) (chunk at 16 xs)) → (b ≡ true → NoneOf (λ x. x == 34) (chunk at 16 xs)) → (c ≡ true → NoneOf (λ x. x == 92) (chunk at 16 xs)) → (d ≡ true → NoneOf (λ x. x == 127) (chunk at 16 xs)) → (e ≡ true → NoneOf (λ x. x == 194) (chunk at 16 xs))
    → (a && b && c && d && e) ≡ true → (k : ℕ) → at ≤ k → k < at + 16 → is_plain (slice_index xs k) ≡ true
plain_block xs at a b c d e low quote backslash delete lead all k from below =
    let last = both (a && b && c && d) e all in
    let fourth = both (a && b && c) d last.0 in
    let third = both (a && b) c fourth.0 in
    let second = both a b third.0 in
    let j = k - at in
    let near : j < 16 = omega arith in
    let place : at + j ≡ k = omega arith in
    let same : slice_index (chunk at 16 xs) j ≡ slice_index xs k = get_or-chunk at 16 xs j 0 near ∙ ap (λ i. slice_index xs i) place in
    ap is_plain (sym same) ∙ plain_of (slice_index (chunk at 16 xs) j) (low second.0 j near) (quote second.1 j near) (backslash third.1 j near) (delete fourth.1 j near) (lead last.1 j near)
