-- Lists of messages: the first under an id, and the others.
use Rattle.std.proofs.Common.{inl, inr, ◌⊎◌, ◌≡◌, Bool, true, List, [], ◌∷◌, ◌++◌, refl, sym, ap, ◌∙◌, Option, Some, None, ℤ}
use Rattle.std.specs.Prelude.{find, if◌then◌else◌}
use Rattle.std.specs.Ordering.{int_eq}
use Rattle.std.proofs.lemmas.Bool.{cases_Bool}
use Rattle.std.proofs.lemmas.Bool.Decides.{Decides-int_eq}
use Rattle.cqlp_observer.specs.declared.message.Message.{Message}
use Rattle.cqlp_observer.specs.Messages.{id_of, is_under}

pub cases_Option : {X : Type 0} (o : Option X) → (o ≡ None) ⊎ ((x : X) × (o ≡ Some x))
cases_Option None = inl refl
cases_Option (Some x) = inr (x, refl)

-- ---- the first that passes

pub find_front : {X : Type 0} (p : X → Bool) (xs ys : List X) (x : X) → find p xs ≡ Some x → find p (xs ++ ys) ≡ Some x
find_front p [] ys x e = absurd (cc e)
find_front p (z ∷ xs) ys x e = elim (cases_Bool (p z)) [
  | inl is ↦ rw is (rw is at e)
  | inr isnt ↦ rw isnt (find_front p xs ys x (rw isnt at e))
]

pub find_back : {X : Type 0} (p : X → Bool) (xs ys : List X) → find p xs ≡ None → find p (xs ++ ys) ≡ find p ys
find_back p [] ys e = refl
find_back p (z ∷ xs) ys e = elim (cases_Bool (p z)) [
  | inl is ↦ absurd (let f = rw is at e in cc f)
  | inr isnt ↦ rw isnt (find_back p xs ys (rw isnt at e))
]

-- ---- ids

pub id_is : {T : Type 0} (id : ℤ) (m : Message T) → is_under id m ≡ true → id_of m ≡ id
id_is id m is = (Decides-int_eq (id_of m) id).0 is

pub int_eq_turned : (a b : ℤ) → int_eq a b ≡ int_eq b a
int_eq_turned a b = elim (cases_Bool (int_eq a b)) [
  | inl is ↦ is ∙ sym ((Decides-int_eq b a).1 (sym ((Decides-int_eq a b).0 is)))
  | inr isnt ↦ elim (cases_Bool (int_eq b a)) [
    | inl is ↦ absurd (let one = (Decides-int_eq a b).1 (sym ((Decides-int_eq b a).0 is)) in cc (one, isnt))
    | inr neither ↦ isnt ∙ sym neither
  ]
]

-- ---- all but the first under an id

abbrev pub without : {T : Type 0} → ℤ → List (Message T) → List (Message T)
without id [] = []
without id (m ∷ ms) = if is_under id m then ms else m ∷ without id ms

pub without_none : {T : Type 0} (id : ℤ) (ms : List (Message T)) → find (is_under id) ms ≡ None → without id ms ≡ ms
without_none id [] e = refl
without_none {T} id (m ∷ ms) e = elim (cases_Bool (is_under id m)) [
  | inl is ↦ absurd (let f = rw is at e in cc f)
  | inr isnt ↦ rw isnt (ap (λ (r : List (Message T)). m ∷ r) (without_none id ms (rw isnt at e)))
]

-- No two have one id.
abbrev pub Apart : {T : Type 0} → List (Message T) → Type 0
Apart [] = Unit {0}
Apart (m ∷ ms) = (find (is_under (id_of m)) ms ≡ None) × Apart ms
