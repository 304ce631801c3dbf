-- Bits in words of 64.
use Rattle.std.proofs.Common.{◌≡◌, ◌≢◌, ℕ, ◌+◌, ◌*◌, ◌/◌, ◌%◌, ◌^◌, ◌<◌, List, length, get_or, set, arith, ap, ◌∙◌, sym, inl, inr, get_or-set_same, get_or-set_other}
use Rattle.std.proofs.lemmas.List.{length-set}
use Rattle.std.proofs.lemmas.Bool.{cases_lt, cases_eq}
use Rattle.std.proofs.lemmas.Nat.Bits.{bit_at-zero, bit_at-trailing_zeros, bit_at_set_same, bit_at_set_other, bit_at_clear_same, bit_at_clear_other}
use Rattle.std.specs.Int.{bit_at, trailing_zeros, bit_not}
use Rattle.std.specs.Prelude.{bit_or, bit_and}
use mir.Syntax.{w64}
use Rattle.cqlp_session.specs.Ids.{IsFirstBit, NoBit, bit_under, WithBit}

-- a word in place of another that differs from it in one bit
pub word_with_bit : (words : List ℕ) (place bit word : ℕ) → place < 64 * length words → bit_at word (place % 64) ≡ bit → ((i : ℕ) → i < 64 → i ≢ place % 64 → bit_at word i ≡ bit_at (get_or words (place / 64) 0) i) → WithBit words place bit (set words (place / 64) word)
word_with_bit words place bit word within is others = record {
  size = length-set words (place / 64) word;
  is = ap (λ w. bit_at w (place % 64)) (get_or-set_same words (place / 64) word 0 (omega arith)) ∙ is;
  others = λ i ne. elim (cases_eq (i / 64) (place / 64)) [
    | inl same ↦ ap (λ k. bit_at (get_or (set words (place / 64) word) k 0) (i % 64)) same
        ∙ ap (λ w. bit_at w (i % 64)) (get_or-set_same words (place / 64) word 0 (omega arith))
        ∙ others (i % 64) (omega arith) (λ e. ne (omega arith))
        ∙ ap (λ k. bit_at (get_or words k 0) (i % 64)) (sym same)
    | inr other ↦ ap (λ w. bit_at w (i % 64)) (get_or-set_other words (place / 64) (i / 64) word 0 other)
  ];
}

-- `words[place / 64] |= 1 << (place % 64)`
pub bit_set : (words : List ℕ) (place : ℕ) → place < 64 * length words → WithBit words place 1 (set words (place / 64) (bit_or (get_or words (place / 64) 0) (1 * 2 ^ (place % 64) % 2 ^ 64)))
bit_set words place within =
    let word = get_or words (place / 64) 0 in
    let k : place % 64 < 64 = omega arith in
    word_with_bit words place 1 _ within (bit_at_set_same w64 word (place % 64) k) (λ i _. bit_at_set_other w64 word (place % 64) k i)

-- `words[place / 64] &= !(1 << (place % 64))`
pub bit_clear : (words : List ℕ) (place : ℕ) → place < 64 * length words → WithBit words place 0 (set words (place / 64) (bit_and (get_or words (place / 64) 0) (bit_not w64 (1 * 2 ^ (place % 64) % 2 ^ 64))))
bit_clear words place within =
    let word = get_or words (place / 64) 0 in
    let k : place % 64 < 64 = omega arith in
    word_with_bit words place 0 _ within (bit_at_clear_same w64 word (place % 64) k) (bit_at_clear_other w64 word (place % 64) k)

-- a bit of a word that is 0
pub bit_under_zero : (words : List ℕ) (i : ℕ) → get_or words (i / 64) 0 ≡ 0 → bit_under words i ≡ 0
bit_under_zero words i e = ap (λ w. bit_at w (i % 64)) e ∙ bit_at-zero (i % 64)

-- the lowest bit of the first word that is not 0
pub first_bit : (words : List ℕ) (at : ℕ) → at < length words → ((k : ℕ) → k < at → get_or words k 0 ≡ 0) → 0 < get_or words at 0 → get_or words at 0 < 2 ^ 64 → IsFirstBit words (at * 64 + trailing_zeros w64 (get_or words at 0))
first_bit words at within zeros some fits =
    let low = bit_at-trailing_zeros w64 (get_or words at 0) some fits in
    let tz = trailing_zeros w64 (get_or words at 0) in
    let tz_fits : tz < 64 = low.0 in
    let word : (at * 64 + tz) / 64 ≡ at = omega arith in
    let bit : (at * 64 + tz) % 64 ≡ tz = omega arith in
    record {
      within = omega arith;
      is = ap (λ k. bit_at (get_or words k 0) ((at * 64 + tz) % 64)) word ∙ ap (bit_at (get_or words at 0)) bit ∙ low.1;
      below = λ i lt. elim (cases_lt (i / 64) at) [
        | inl before ↦ bit_under_zero words i (zeros (i / 64) before)
        | inr from ↦
            let same : i / 64 ≡ at = omega arith in
            ap (λ k. bit_at (get_or words k 0) (i % 64)) same ∙ low.2 (i % 64) (omega arith)
      ];
    }

pub no_bit : (words : List ℕ) → ((k : ℕ) → k < length words → get_or words k 0 ≡ 0) → NoBit words
no_bit words zeros i lt = bit_under_zero words i (zeros (i / 64) (omega arith))
