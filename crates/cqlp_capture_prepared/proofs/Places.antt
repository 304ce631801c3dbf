-- What is at the place of a key.
use Rattle.std.proofs.Common.{◌≡◌, ℕ, zero, suc, ◌<◌, Bool, true, false, cond, List, [], ◌∷◌, length, get_or, refl, ap, arith, Some, None}
use Rattle.std.specs.List.{position, position_or_len, remove}
use Rattle.std.specs.Map.{lookup, lookup_entry, remove_entry}
use Rattle.std.proofs.lemmas.List.Quantifiers.{position-Some}
use Rattle.std.proofs.lemmas.List.Sums.{fails_before_first}
use Rattle.std.proofs.lemmas.Bool.{ltb-false}

module _ {K V : Type 0} (test : K → Bool) where
  abbrev passes : K × V → Bool
  passes e = test e.0

  pub record HasNone (es : List (K × V)) : Type 0 where
    pub entry : lookup_entry test es ≡ None
    pub value : lookup test es ≡ None
    pub stays : remove_entry test es ≡ es

  pub record Has (es : List (K × V)) (at : ℕ) (d : K × V) : Type 0 where
    pub entry : lookup_entry test es ≡ Some (get_or es at d)
    pub value : lookup test es ≡ Some (get_or es at d).1
    pub others : remove_entry test es ≡ remove es at

  none_passes : (es : List (K × V)) → ((k : ℕ) (d : K × V) → k < length es → test (get_or es k d).0 ≡ false) → HasNone es
  none_passes [] h = record { entry = refl; value = refl; stays = refl }
  none_passes (e ∷ es) h =
      let isnt : test e.0 ≡ false = h 0 e (omega arith) in
      let rest = none_passes es (λ k d less. h (suc k) d (omega arith)) in
      record { entry = rw isnt rest.entry; value = rw isnt rest.value; stays = rw isnt (ap (λ (r : List (K × V)). e ∷ r) rest.stays) }

  first_passes : (es : List (K × V)) (at : ℕ) (d : K × V) → at < length es → ((k : ℕ) → k < at → test (get_or es k d).0 ≡ false) → test (get_or es at d).0 ≡ true → Has es at d
  first_passes [] at d lt before is = absurd (omega arith)
  first_passes (e ∷ es) zero d lt before is = record { entry = rw is refl; value = rw is refl; others = rw is refl }
  first_passes (e ∷ es) (suc at) d lt before is =
      let isnt : test e.0 ≡ false = before 0 (omega arith) in
      let rest = first_passes es at d (omega arith) (λ k less. before (suc k) (omega arith)) is in
      record { entry = rw isnt rest.entry; value = rw isnt rest.value; others = rw isnt (ap (λ (r : List (K × V)). e ∷ r) rest.others) }

  pub placed : (es : List (K × V)) (at : ℕ) (d : K × V) → position passes es ≡ Some at → Has es at d
  placed es at d e =
      let is = position-Some passes es at d e in
      first_passes es at d is.0 (λ k less. is.2 k less) is.1

  pub not_placed : (es : List (K × V)) → position passes es ≡ None → HasNone es
  not_placed es e =
      let past = ltb-false (position_or_len passes es) (length es) (cond_none _ _ e) in
      none_passes es (λ k d less. fails_before_first passes es k d (omega arith))
    where
      cond_none : (b : Bool) (i : ℕ) → cond b (Some i) None ≡ None → b ≡ false
      cond_none true i e = absurd (cc e)
      cond_none false i e = refl
