-- Which ids are free by their bits.
use Rattle.std.proofs.Common.{◌≡◌, ℕ, ◌+◌, ◌-◌, ◌/◌, ◌%◌, ◌^◌, ◌<◌, Bool, true, false, List, Option, Some, None, length, get_or, set, take, drop, ◌++◌, replicate, cond, arith, refl, ap, ◌∙◌, sym, inl, inr, get_or-set_same, get_or-set_other}
use Rattle.std.specs.Prelude.{is_none}
use Rattle.std.proofs.lemmas.List.{length-set, length-replicate, get_or-replicate, get_or_past, take_at}
use Rattle.std.proofs.lemmas.List.Sums.{position_or_len_is}
use Rattle.std.proofs.lemmas.Bool.{cases_lt, cases_eq, lt-ltb, le-ltb}
use Rattle.std.proofs.lemmas.Nat.Bits.{bit_at_ones}
use Rattle.std.specs.Int.{bit_at}
use Rattle.cqlp_session.specs.Ids.{IsFirstBit, bit_under, WithBit, Marks, all_ones}
use Rattle.cqlp_session.specs.Slots.{least_free}

bit_one : (b : Bool) → ◌≡◌ {A = ℕ} (cond b 1 0) 1 → b ≡ true
bit_one true e = refl
bit_one false e = cc

bit_zero : (b : Bool) → ◌≡◌ {A = ℕ} (cond b 1 0) 0 → b ≡ false
bit_zero true e = cc
bit_zero false e = refl

-- nothing is anywhere in new slots
pub empty_under : {A : Type 0} (n i : ℕ) → get_or {A = Option A} (replicate n None) i None ≡ None
empty_under {A} n i = elim (cases_lt i n) [
  | inl lt ↦ get_or-replicate n i None None lt
  | inr le ↦ get_or_past (replicate n None) i None (omega (arith, length-replicate {A = Option A} n None))
]

pub marks_empty : {A : Type 0} (n : ℕ) → Marks {A = A} (all_ones n) (replicate n None)
marks_empty {A} n =
    let words = length-replicate ((n + 63) / 64) (2 ^ 64 - 1) in
    let slots = length-replicate {A = Option A} n None in
    record {
      size = words ∙ ap (λ k. (k + 63) / 64) (sym slots);
      bits = λ i lt.
          ap (λ w. bit_at w (i % 64)) (get_or-replicate ((n + 63) / 64) (i / 64) (2 ^ 64 - 1) 0 (omega arith))
          ∙ bit_at_ones 64 (i % 64) (omega arith)
          ∙ ap (λ (o : Option A). cond (is_none o) 1 0) (sym (empty_under n i));
    }

-- a slot and its bit are written
pub marks_put : {A : Type 0} (words : List ℕ) (slots : List (Option A)) (place bit : ℕ) (new : List ℕ) (what : Option A) → Marks words slots → WithBit words place bit new → place < length slots → bit ≡ cond (is_none what) 1 0 → Marks new (set slots place what)
marks_put words slots place bit new what m w within e = record {
  size = w.size ∙ m.size ∙ ap (λ k. (k + 63) / 64) (sym (length-set slots place what));
  bits = λ i lt. elim (cases_eq i place) [
    | inl same ↦ ap (bit_under new) same ∙ w.is ∙ e ∙ ap (λ o. cond (is_none o) 1 0) (sym (get_or-set_same slots place what None within) ∙ ap (λ k. get_or (set slots place what) k None) (sym same))
    | inr other ↦ w.others i other ∙ m.bits i (omega (arith, w.size)) ∙ ap (λ o. cond (is_none o) 1 0) (sym (get_or-set_other slots place i what None other))
  ];
}

-- the same, where the words were written through a slice
pub marks_put_through : {A : Type 0} (words : List ℕ) (slots : List (Option A)) (place bit n : ℕ) (new : List ℕ) (what : Option A) → Marks words slots → WithBit words place bit new → place < length slots → bit ≡ cond (is_none what) 1 0 → n ≡ length words → Marks (take n (new ++ drop (length new) words)) (set slots place what)
marks_put_through words slots place bit n new what m w within e size =
    rw (take_at new (drop (length new) words) n (w.size ∙ sym size)) (marks_put words slots place bit new what m w within e)

-- the first bit is that of the least free id, where it is an id's
pub least_is : {A : Type 0} (words : List ℕ) (slots : List (Option A)) (place : ℕ) → Marks words slots → IsFirstBit words place → place < length slots → least_free slots ≡ Some place
least_is words slots place m f within =
    let free : is_none (get_or slots place None) ≡ true = bit_one _ (sym (m.bits place f.within) ∙ f.is) in
    let taken : (i : ℕ) → i < place → is_none (get_or slots i None) ≡ false = λ i lt. bit_zero _ (sym (m.bits i (omega (arith, f.within))) ∙ f.below i lt) in
    rw (position_or_len_is is_none slots place None (omega arith) taken (λ _. free)) (rw (lt-ltb place (length slots) within) refl)

-- no id is free where no bit below the last is set
pub none_least : {A : Type 0} (words : List ℕ) (slots : List (Option A)) → Marks words slots → ((i : ℕ) → i < length slots → bit_under words i ≡ 0) → least_free slots ≡ None
none_least words slots m zeros =
    let taken : (i : ℕ) → i < length slots → is_none (get_or slots i None) ≡ false = λ i lt. bit_zero _ (sym (m.bits i (omega (arith, m.size))) ∙ zeros i lt) in
    rw (position_or_len_is is_none slots (length slots) None (omega arith) taken (λ lt. absurd (omega arith))) (rw (le-ltb (length slots) (length slots) (omega arith)) refl)
