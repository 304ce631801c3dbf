-- One level more, and one less.
use Rattle.std.proofs.Common.{◌≡◌, suc, ◌-◌, ◌<◌, List, [], ◌∷◌, ◌++◌, length, set, take, Some, refl, sym, ap, inl, inr, ◌⊎◌, arith}
use Rattle.std.specs.Prelude.{slice_get, slice_index_or}
use Rattle.cqlp_kind.specs.declared.node.Node.{Node}
use Rattle.cqlp_cell.specs.declared.open_values.OpenValue.{OpenValue}
use Rattle.cqlp_cell.specs.OpenValues.{last_open, but_last, with_last}
use Rattle.cqlp_cell.specs.Progress.{after_item, after_item_in}

pub last_is : (os : List OpenValue) (o : OpenValue) → last_open (os ++ o ∷ []) ≡ Some o
last_is [] o = refl
last_is (x ∷ []) o = refl
last_is (x ∷ y ∷ os) o = last_is (y ∷ os) o

pub but_last_is : (os : List OpenValue) (o : OpenValue) → but_last (os ++ o ∷ []) ≡ os
but_last_is [] o = refl
but_last_is (x ∷ []) o = refl
but_last_is (x ∷ y ∷ os) o = ap (λ (m : List OpenValue). x ∷ m) (but_last_is (y ∷ os) o)

pub with_last_is : (os : List OpenValue) (o p : OpenValue) → with_last p (os ++ o ∷ []) ≡ os ++ p ∷ []
with_last_is [] o p = refl
with_last_is (x ∷ []) o p = refl
with_last_is (x ∷ y ∷ os) o p = ap (λ (m : List OpenValue). x ∷ m) (with_last_is (y ∷ os) o p)

-- values are open, or none is
pub cases_open : (os : List OpenValue) → (os ≡ []) ⊎ ((front : List OpenValue) × (o : OpenValue) × (os ≡ front ++ o ∷ []))
cases_open [] = inl refl
cases_open (o ∷ os) = elim (cases_open os) [
  | inl none ↦ inr ([], o, ap (λ (m : List OpenValue). o ∷ m) none)
  | inr some ↦ inr (o ∷ some.0, some.1, ap (λ (m : List OpenValue). o ∷ m) some.2)
]

pub last_read : (os : List OpenValue) → slice_get os (length os - 1) ≡ last_open os
last_read [] = refl
last_read (o ∷ []) = refl
last_read (o ∷ p ∷ os) = let e : suc (suc (length os)) - 1 ≡ suc (suc (length os) - 1) = omega arith in rw e (last_read (p ∷ os))

pub front_is : (os : List OpenValue) → take (length os - 1) os ≡ but_last os
front_is [] = refl
front_is (o ∷ []) = refl
front_is (o ∷ p ∷ os) = let e : suc (suc (length os)) - 1 ≡ suc (suc (length os) - 1) = omega arith in rw e (ap (λ (m : List OpenValue). o ∷ m) (front_is (p ∷ os)))

pub last_set : (os : List OpenValue) (p : OpenValue) → set os (length os - 1) p ≡ with_last p os
last_set [] p = refl
last_set (o ∷ []) p = refl
last_set (o ∷ q ∷ os) p = let e : suc (suc (length os)) - 1 ≡ suc (suc (length os) - 1) = omega arith in rw e (ap (λ (m : List OpenValue). o ∷ m) (last_set (q ∷ os) p))

pub last_item : (os : List OpenValue) (o : OpenValue) → 0 < length os → o ≡ slice_index_or os (length os - 1) o → last_open os ≡ Some o
last_item [] o some e = absurd (omega (arith, some))
last_item (x ∷ []) o some e = ap Some (sym e)
last_item (x ∷ y ∷ os) o some e = let k : suc (suc (length os)) - 1 ≡ suc (suc (length os) - 1) = omega arith in last_item (y ∷ os) o (omega arith) (rw k at e)

pub passed_is : (nodes : List Node) (os : List OpenValue) (o p : OpenValue) → last_open os ≡ Some o → p ≡ after_item nodes o → set os (length os - 1) p ≡ after_item_in nodes os (last_open os)
passed_is nodes os o p is after = rw (is, ← after) (last_set os p)
