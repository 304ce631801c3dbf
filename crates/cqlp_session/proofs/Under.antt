-- What is under an id after another is written, and lists that each element of passes a fact.
use Rattle.std.proofs.Common.{◌≡◌, ◌≢◌, ℕ, ◌+◌, ◌<◌, Bool, true, false, List, [], ◌∷◌, ◌++◌, zero, suc, Option, Some, None, length, get_or, set, replicate, cond, arith, refl, ap, inl, inr, ◌⊎◌, get_or-set_same, get_or-set_other, ℤ, pos, negsuc}
use Rattle.std.specs.Prelude.{is_none, filter, AllPairs}
use Rattle.std.specs.List.{AllByRecursion}
use Rattle.std.specs.Ordering.{int_eq}
use Rattle.std.proofs.lemmas.List.{length-set, get_or_past}
use Rattle.std.proofs.lemmas.List.Quantifiers.{position-Some}
use Rattle.std.proofs.lemmas.List.Elements.{All-from_recursion}
use Rattle.std.proofs.lemmas.Bool.{cases_lt, cases_Bool, lt-ltb, ltb-true}
use Rattle.std.proofs.lemmas.Bool.Decides.{Decides-int_eq}
use Rattle.cqlp_session.specs.Slots.{has_slot, least_free, put, under}
use Rattle.cqlp_session.proofs.Marked.{empty_under}

-- ---- ids

pub int_eq_same : (a : ℤ) → int_eq a a ≡ true
int_eq_same a = (Decides-int_eq a a).1 refl

pub int_eq_other : (a b : ℤ) → a ≢ b → int_eq a b ≡ false
int_eq_other a b ne = elim (cases_Bool (int_eq a b)) [
  | inl is ↦ absurd (ne ((Decides-int_eq a b).0 is))
  | inr isnt ↦ isnt
]

pub cases_int : (a b : ℤ) → (a ≡ b) ⊎ (a ≢ b)
cases_int a b = elim (cases_Bool (int_eq a b)) [
  | inl is ↦ inl ((Decides-int_eq a b).0 is)
  | inr isnt ↦ inr (λ e. absurd (cc ((Decides-int_eq a b).1 e, isnt)))
]

-- ---- slots

pub under_put_other : {A : Type 0} (slots : List (Option A)) (id other : ℤ) (what : Option A) → other ≢ id → under (put slots id what) other ≡ under slots other
under_put_other slots (pos i) (pos j) what ne = get_or-set_other slots i j what None (λ e. ne (ap pos e))
under_put_other slots (pos i) (negsuc j) what ne = refl
under_put_other slots (negsuc i) other what ne = refl

pub under_put_same : {A : Type 0} (slots : List (Option A)) (id : ℤ) (what : Option A) → has_slot slots id ≡ true → under (put slots id what) id ≡ what
under_put_same slots (pos i) what has = get_or-set_same slots i what None (ltb-true i (length slots) has)
under_put_same slots (negsuc i) what has = absurd (cc has)

pub has_taken : {A : Type 0} (slots : List (Option A)) (id : ℤ) (a : A) → under slots id ≡ Some a → has_slot slots id ≡ true
has_taken slots (pos i) a e = elim (cases_lt i (length slots)) [
  | inl lt ↦ lt-ltb i (length slots) lt
  | inr le ↦ absurd (cc (e, get_or_past slots i None le))
]
has_taken slots (negsuc i) a e = absurd (cc e)

pub length_put : {A : Type 0} (slots : List (Option A)) (id : ℤ) (what : Option A) → length (put slots id what) ≡ length slots
length_put slots (pos i) what = length-set slots i what
length_put slots (negsuc i) what = refl

pub under_new : {A : Type 0} (n : ℕ) (id : ℤ) → under {A = A} (replicate n None) id ≡ None
under_new n (pos i) = empty_under n i
under_new n (negsuc i) = refl

pub none_is : {A : Type 0} (o : Option A) → is_none o ≡ true → o ≡ None
none_is None e = refl
none_is (Some a) e = cc

-- the least free id is one of the slots', and free
pub least_is_free : {A : Type 0} (slots : List (Option A)) (i : ℕ) → least_free slots ≡ Some i → (has_slot slots (pos i) ≡ true) × (under slots (pos i) ≡ None)
least_is_free slots i e =
    let at = position-Some is_none slots i None e in
    (lt-ltb i (length slots) at.0, none_is (get_or slots i None) at.1)

-- ---- each element of a list

pub each_weaker : {X : Type 0} (P Q : X → Type 0) (xs : List X) → ((x : X) → P x → Q x) → AllByRecursion P xs → AllByRecursion Q xs
each_weaker P Q [] weaker h = tt
each_weaker P Q (x ∷ xs) weaker h = (weaker x h.0, each_weaker P Q xs weaker h.1)

pub each_both : {X : Type 0} (P Q : X → Type 0) (xs : List X) → AllByRecursion P xs → AllByRecursion Q xs → AllByRecursion (λ x. P x × Q x) xs
each_both P Q [] h k = tt
each_both P Q (x ∷ xs) h k = ((h.0, k.0), each_both P Q xs h.1 k.1)

pub each_push : {X : Type 0} (P : X → Type 0) (xs : List X) (y : X) → AllByRecursion P xs → P y → AllByRecursion P (xs ++ y ∷ [])
each_push P [] y h k = (k, tt)
each_push P (x ∷ xs) y h k = (h.0, each_push P xs y h.1 k)

-- each element that a test leaves has passed it
pub each_filtered : {X : Type 0} (P : X → Type 0) (p : X → Bool) (xs : List X) → AllByRecursion P xs → AllByRecursion (λ x. P x × (p x ≡ true)) (filter p xs)
each_filtered P p [] h = tt
each_filtered {X} P p (x ∷ xs) h =
    let rest = each_filtered P p xs h.1 in
    elim (cases_Bool (p x)) [
      | inl is ↦ rw is ((h.0, is), rest)
      | inr isnt ↦ rw isnt rest
    ]

-- R holds of each element and each later one
abbrev pub PairsByRecursion : {X : Type 0} → (X → X → Type 0) → List X → Type 0
PairsByRecursion R [] = Unit {0}
PairsByRecursion R (x ∷ xs) = AllByRecursion (R x) xs × PairsByRecursion R xs

pub pairs_filtered : {X : Type 0} (R : X → X → Type 0) (p : X → Bool) (xs : List X) → PairsByRecursion R xs → PairsByRecursion R (filter p xs)
pairs_filtered R p [] h = tt
pairs_filtered {X} R p (x ∷ xs) h =
    let rest = pairs_filtered R p xs h.1 in
    elim (cases_Bool (p x)) [
      | inl is ↦ rw is (each_weaker _ (R x) (filter p xs) (λ y k. k.0) (each_filtered (R x) p xs h.0), rest)
      | inr isnt ↦ rw isnt rest
    ]

pub all_pairs : {X : Type 0} (R : X → X → Type 0) (xs : List X) → PairsByRecursion R xs → AllPairs R xs
all_pairs R [] h i j d lt within = absurd (omega arith)
all_pairs R (x ∷ xs) h zero zero d lt within = absurd (omega arith)
all_pairs R (x ∷ xs) h zero (suc j) d lt within = All-from_recursion (R x) xs h.0 j d (omega arith)
all_pairs R (x ∷ xs) h (suc i) zero d lt within = absurd (omega arith)
all_pairs R (x ∷ xs) h (suc i) (suc j) d lt within = all_pairs R xs h.1 i j d (omega arith) (omega arith)

-- ---- how many elements pass

abbrev pub count : {X : Type 0} → (X → Bool) → List X → ℕ
count p [] = 0
count p (x ∷ xs) = cond (p x) 1 0 + count p xs

pub count-push : {X : Type 0} (p : X → Bool) (xs : List X) (y : X) → count p (xs ++ y ∷ []) ≡ count p xs + cond (p y) 1 0
count-push p [] y = omega arith
count-push p (x ∷ xs) y = omega (arith, count-push p xs y)

pub count_none : {X : Type 0} (p : X → Bool) (xs : List X) → AllByRecursion (λ x. p x ≡ false) xs → count p xs ≡ 0
count_none p [] h = refl
count_none p (x ∷ xs) h = rw h.0 (omega (arith, count_none p xs h.1))

pub none_counted : {X : Type 0} (p : X → Bool) (xs : List X) → count p xs ≡ 0 → AllByRecursion (λ x. p x ≡ false) xs
none_counted p [] e = tt
none_counted {X} p (x ∷ xs) e = elim (cases_Bool (p x)) [
  | inl is ↦ let one = rw is at e in absurd (omega arith)
  | inr isnt ↦ (isnt, none_counted p xs (omega (arith, rw isnt at e)))
]

pub count-set : {X : Type 0} (p : X → Bool) (xs : List X) (i : ℕ) (y d : X) → i < length xs → count p (set xs i y) + cond (p (get_or xs i d)) 1 0 ≡ count p xs + cond (p y) 1 0
count-set p [] i y d lt = absurd (omega arith)
count-set p (x ∷ xs) zero y d lt = omega arith
count-set p (x ∷ xs) (suc i) y d lt = omega (arith, count-set p xs i y d (omega arith))
