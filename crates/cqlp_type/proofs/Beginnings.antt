-- Where types begin that are side by side, one after the other.
use Rattle.std.proofs.Common.{◌≡◌, ◌≢◌, ℕ, zero, suc, ◌+◌, ◌-◌, ◌<◌, ◌≤◌, List, [], ◌∷◌, length, drop, get_or, eqb, cond, refl, sym, ◌∙◌, arith, inl, inr}
use Rattle.std.specs.Prelude.{Some, None, slice_get}
use Rattle.std.proofs.lemmas.Option.{get_or_from_slice_get, slice_get-get_or, slice_get_cases}
use Rattle.std.proofs.lemmas.Bool.{ne_eqb}
use Rattle.std.proofs.lemmas.List.{drop-drop, drop_all}
use Rattle.std.proofs.Math.Seq.{drop-cons}
use Rattle.cqlp_kind.specs.declared.node.Node.{Node}
use Rattle.cqlp_type.specs.Table.{beginnings}

-- what is skipped does not matter
pub skipped_is : (number skipped : ℕ) (xs : List Node) → beginnings number skipped xs ≡ beginnings (number + skipped) 0 (drop skipped xs)
skipped_is number zero [] = refl
skipped_is number (suc skipped) [] = refl
skipped_is number zero (x ∷ xs) = let e : number + 0 ≡ number = omega arith in rw e refl
skipped_is number (suc skipped) (x ∷ xs) = let e : suc number + skipped ≡ number + suc skipped = omega arith in rw (← e) (skipped_is (suc number) skipped xs)

-- a type begins at node `at`, and the next one after it
module _ (number at : ℕ) (xs : List Node) (x : Node) (here : get_or xs at x ≡ x) (within : at < length xs) where
  there : beginnings (number + at) 0 (drop at xs) ≡ (number + at) ∷ (cond (eqb x.span 0) [] (beginnings (suc (number + at)) (x.span - 1) (drop (suc at) xs)))
  there = rw (drop-cons xs at x within, here) refl

  pub one_open : x.span ≡ 0 → beginnings (number + at) 0 (drop at xs) ≡ (number + at) ∷ []
  one_open e = there ∙ rw e refl

  pub one_more : x.span ≢ 0 → beginnings (number + at) 0 (drop at xs) ≡ (number + at) ∷ beginnings (number + (at + x.span)) 0 (drop (at + x.span) xs)
  one_more some =
      let first : suc (number + at) + (x.span - 1) ≡ number + (at + x.span) = omega arith in
      let after : suc at + (x.span - 1) ≡ at + x.span = omega arith in
      there ∙ rw (ne_eqb x.span 0 some, skipped_is (suc (number + at)) (x.span - 1) (drop (suc at) xs), drop-drop (x.span - 1) (suc at) xs, first, after) refl

-- ---- the loop that looks for one

module _ (first at : ℕ) (xs : List Node) where
  pub none_there : (j : ℕ) → length xs ≤ at → slice_get (beginnings (first + at) 0 (drop at xs)) j ≡ None
  none_there j le = rw (drop_all at xs le) refl

  pub first_there : at < length xs → slice_get (beginnings (first + at) 0 (drop at xs)) 0 ≡ Some (first + at)
  first_there lt = elim (slice_get_cases xs at).1 [
    | inl h ↦ rw (there first at xs h.0 h.3 h.1) refl
    | inr h ↦ absurd (omega (arith, h.0))
  ]

  module _ (x : Node) (here : x ≡ get_or xs at x) (within : at < length xs) where
    pub open_there : (j : ℕ) → x.span ≡ 0 → 0 < j → slice_get (beginnings (first + at) 0 (drop at xs)) j ≡ None
    open_there zero e lt = absurd (omega arith)
    open_there (suc j) e lt = rw (one_open first at xs x (sym here) within e) refl

    pub next_there : (j : ℕ) → x.span ≢ 0 → slice_get (beginnings (first + at) 0 (drop at xs)) (suc j) ≡ slice_get (beginnings (first + (at + x.span)) 0 (drop (at + x.span) xs)) j
    next_there j some = rw (one_more first at xs x (sym here) within some) refl

-- ---- the loop that counts them

module _ (count at : ℕ) (xs : List Node) (d : Node) (within : at < length xs) where
  here : get_or xs at (get_or xs at d) ≡ get_or xs at d
  here = get_or_from_slice_get xs at (get_or xs at d) (get_or xs at d) (slice_get-get_or xs at d within)

  pub more_counted : (get_or xs at d).span ≢ 0 → (count + 1) + length (beginnings (at + (get_or xs at d).span) 0 (drop (at + (get_or xs at d).span) xs)) ≡ count + length (beginnings at 0 (drop at xs))
  more_counted some =
      let x = get_or xs at d in
      let none : 0 + at ≡ at = omega arith in
      let more : 0 + (at + x.span) ≡ at + x.span = omega arith in
      let e = rw (none, more) at (one_more 0 at xs x here within some) in
      rw e (omega arith)
