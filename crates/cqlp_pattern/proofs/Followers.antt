-- The positions that may follow others.
use Rattle.std.proofs.Common.{◌≡◌, ◌∙◌, ◌+◌, ◌==◌, if◌then◌else◌, ℕ, zero, suc, List, ap, arith, bit_or, refl, slice_index_or, sym}
use Rattle.std.proofs.lemmas.Nat.Bits.{bit_at-zero, shr_and_one}
use Rattle.cqlp_pattern.specs.Matching.{followers, joined}

-- of no position
pub followers_at_first : (follow : List ℕ) (active : ℕ) → 0 ≡ followers follow active 0
unfolding followers
followers_at_first follow active = refl

-- one more position
pub followers_more : (follow : List ℕ) (active n : ℕ)
    → followers follow active (n + 1) ≡ joined (followers follow active n) active n (slice_index_or follow n 0)
unfolding followers
followers_more follow active n =
    let e : n + 1 ≡ suc n = omega arith in ap (followers follow active) e

joined_none : (next n follow : ℕ) → joined next 0 n follow ≡ next
joined_none next n follow = ap (λ b. if b == 1 then bit_or next follow else next) (shr_and_one 0 n ∙ bit_at-zero n)

-- none follows where none is active
none : (follow : List ℕ) (n : ℕ) → followers follow 0 n ≡ 0
unfolding followers
none follow zero = refl
none follow (suc n) = joined_none (followers follow 0 n) n (slice_index_or follow n 0) ∙ none follow n

pub followers_of_none : (follow : List ℕ) (active : ℕ) → active ≡ 0 → 0 ≡ followers follow active 128
followers_of_none follow active e = sym (ap (λ a. followers follow a 128) e ∙ none follow 128)
