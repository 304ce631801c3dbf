-- The least id that is free.
use Rattle.std.proofs.Common.{◌≡◌, ℕ, false, List, Option, Some, None, length, get_or, arith, refl, subst, inl, inr, ℤ, pos}
use Rattle.std.specs.Prelude.{All, IsSome, is_none, option_map, nat_lt}
use Rattle.std.specs.List.{position_or_len}
use Rattle.std.proofs.lemmas.Int.{ints}
use Rattle.std.proofs.lemmas.Bool.{cases_Bool, ltb-false}
use Rattle.std.proofs.lemmas.List.Sums.{fails_before_first}
use Rattle.std.proofs.lemmas.List.Quantifiers.{position-Some}
use Rattle.cqlp_session.specs.Slots.{IsLeastFree, least_free}
use Rattle.cqlp_session.proofs.Under.{least_is_free}

some_is : {A : Type 0} (o : Option A) → is_none o ≡ false → IsSome o
some_is None e = cc
some_is (Some a) e = refl

least_at : {A : Type 0} (slots : List (Option A)) (id : ℤ) (least : Option ℕ) → least_free slots ≡ least → option_map pos least ≡ Some id → IsLeastFree slots id
least_at slots id None e found = absurd (cc found)
least_at slots id (Some i) e found =
    let at = least_is_free slots i e in
    let first = position-Some is_none slots i None e in
    let same : pos i ≡ id = cc found in
    subst (IsLeastFree slots) same (record {
      has = at.0;
      free = at.1;
      least = λ k lt. some_is (get_or slots k None) (first.2 k (omega (arith, ints)));
    })

pub least_found : {A : Type 0} (slots : List (Option A)) (id : ℤ) → option_map pos (least_free slots) ≡ Some id → IsLeastFree slots id
least_found slots id found = least_at slots id (least_free slots) refl found

pub none_found : {A : Type 0} (slots : List (Option A)) → option_map pos (least_free slots) ≡ None → All (λ slot. IsSome slot) slots
none_found {A} slots none = elim (cases_Bool (nat_lt (position_or_len is_none slots) (length slots))) [
  | inl within ↦ absurd (cc (rw within at none))
  | inr past ↦
      let end = ltb-false (position_or_len is_none slots) (length slots) past in
      λ k d lt. some_is (get_or slots k d) (fails_before_first is_none slots k d (omega arith))
]
