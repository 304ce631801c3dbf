-- A map by its entries, in the order of their keys: with one more, and without one.
use Rattle.std.proofs.Common.{inl, inr, ◌⊎◌, ◌≡◌, Bool, true, false, cond, List, [], ◌∷◌, refl, sym, ap, subst, ◌∙◌, Option, Some, None}
use Rattle.std.specs.declared.cmp.Ordering.{Ordering}
use Rattle.std.specs.declared.cmp.Ordering.TheVariants.{Less, Equal, Greater}
use Rattle.std.specs.Ordering.{is_eq, ordering_reverse}
use Rattle.std.specs.Cmp.{IsTotalOrder}
use Rattle.std.specs.BTreeMap.{insert_entry, is_at}
use Rattle.std.specs.List.{AllByRecursion}
use Rattle.std.specs.List.Sorted.{IsPermutation, IsStrictlySortedBy}
use Rattle.std.specs.Map.{keys_of, lookup, remove_entry, values_of}
use Rattle.std.proofs.lemmas.Bool.{cases_Bool}
use Rattle.std.proofs.lemmas.List.Sorted.{IsPermutation-refl, IsPermutation-append_left, IsPermutation-append_comm, IsPermutation-cons, IsPermutation-trans}
use Rattle.std.proofs.lemmas.Map.Lookups.{CmpEqualImpliesEq}

pub cases_Option : {X : Type 0} (o : Option X) → (o ≡ None) ⊎ ((x : X) × (o ≡ Some x))
cases_Option None = inl refl
cases_Option (Some x) = inr (x, refl)

pub cases_Ordering : (r : Ordering) → (r ≡ Less) ⊎ ((r ≡ Equal) ⊎ (r ≡ Greater))
cases_Ordering Less = inl refl
cases_Ordering Equal = inr (inl refl)
cases_Ordering Greater = inr (inr refl)

-- ---- keys

equal_is : (r : Ordering) → is_eq r ≡ true → r ≡ Equal
equal_is Less e = absurd (cc e)
equal_is Equal e = refl
equal_is Greater e = absurd (cc e)

turned_is : (r : Ordering) → r ≡ ordering_reverse r → is_eq r ≡ true
turned_is Less e = absurd (cc e)
turned_is Equal e = refl
turned_is Greater e = absurd (cc e)

pub same_key : {K : Type 0} {R : K → K → Ordering} → CmpEqualImpliesEq R → (a b : K) → is_at (R a) b ≡ true → a ≡ b
same_key {R = R} exact a b e = exact a b (equal_is (R a b) e)

pub own_key : {K : Type 0} {R : K → K → Ordering} → IsTotalOrder R → (k : K) → is_at (R k) k ≡ true
own_key {R = R} o k = turned_is (R k k) (o.antisymm k k)

-- two keys of which one is another's, and one is not
pub other_key : {K : Type 0} {R : K → K → Ordering} → CmpEqualImpliesEq R → (q a b : K) → is_at (R a) b ≡ false → is_at (R q) b ≡ true → is_at (R q) a ≡ false
other_key {K} {R} exact q a b apart is = elim (cases_Bool (is_at (R q) a)) [
  | inr isnt ↦ isnt
  | inl too ↦
      let same : q ≡ a = same_key exact q a too in
      absurd (let e = subst (λ (k : K). is_at (R k) b ≡ true) same is in cc (e, apart))
]

-- ---- one that is under a key

pub lookup_with : {K X : Type 0} {R : K → K → Ordering} → CmpEqualImpliesEq R → (k : K) (v : X) (q : K) (es : List (K × X)) → lookup (is_at (R k)) es ≡ None → lookup (is_at (R q)) (insert_entry R es k v) ≡ cond (is_at (R q) k) (Some v) (lookup (is_at (R q)) es)
lookup_with exact k v q [] none = refl
lookup_with {R = R} exact k v q (e ∷ es) none = elim (cases_Ordering (R k e.0)) [
  | inl less ↦ rw less refl
  | inr (inl equal) ↦ absurd (let f = rw equal at none in cc f)
  | inr (inr greater) ↦
      let rest = lookup_with exact k v q es (rw greater at none) in
      let apart : is_at (R k) e.0 ≡ false = rw greater refl in
      elim (cases_Bool (is_at (R q) e.0)) [
        | inl here ↦ rw (greater, here, other_key exact q k e.0 apart here) refl
        | inr not_here ↦ rw (greater, not_here) rest
      ]
]

pub without_none : {K X : Type 0} (test : K → Bool) (es : List (K × X)) → lookup test es ≡ None → remove_entry test es ≡ es
without_none test [] none = refl
without_none {K} {X} test (e ∷ es) none = elim (cases_Bool (test e.0)) [
  | inl is ↦ absurd (let f = rw is at none in cc f)
  | inr isnt ↦ rw isnt (ap (λ (r : List (K × X)). e ∷ r) (without_none test es (rw isnt at none)))
]

-- none of several is under a key
none_past : {K X : Type 0} (R : K → K → Ordering) (k : K) (es : List (K × X)) → AllByRecursion (λ y. R k y ≡ Less) (keys_of es) → lookup (is_at (R k)) es ≡ None
none_past R k [] all = refl
none_past R k (e ∷ es) all = rw all.0 (none_past R k es all.1)

pub lookup_without : {K X : Type 0} {R : K → K → Ordering} → CmpEqualImpliesEq R → (k q : K) (es : List (K × X)) → IsStrictlySortedBy R (keys_of es) → lookup (is_at (R q)) (remove_entry (is_at (R k)) es) ≡ cond (is_at (R q) k) None (lookup (is_at (R q)) es)
unfolding IsStrictlySortedBy
lookup_without {R = R} exact k q [] sorted = elim (cases_Bool (is_at (R q) k)) [ inl is ↦ rw is refl | inr isnt ↦ rw isnt refl ]
lookup_without {K} {X} {R} exact k q (e ∷ es) sorted = elim (cases_Bool (is_at (R k) e.0)) [
  | inl is ↦
      let same : k ≡ e.0 = same_key exact k e.0 is in
      elim (cases_Bool (is_at (R q) k)) [
        | inl asked ↦
            let there : q ≡ e.0 = same_key exact q k asked ∙ same in
            let none : lookup (is_at (R q)) es ≡ None = subst (λ (j : K). lookup (is_at (R j)) es ≡ None) (sym there) (none_past R e.0 es sorted.0) in
            rw (is, asked) none
        | inr not_asked ↦
            let apart : is_at (R q) e.0 ≡ false = subst (λ (j : K). is_at (R q) j ≡ false) same not_asked in
            rw (is, not_asked, apart) refl
      ]
  | inr isnt ↦ elim (cases_Bool (is_at (R q) e.0)) [
    | inl here ↦ rw (isnt, here, other_key exact q k e.0 isnt here) refl
    | inr not_here ↦ rw (isnt, not_here) (lookup_without exact k q es sorted.1)
  ]
]

-- ---- keys in their order

all_with : {K X : Type 0} (R : K → K → Ordering) (P : K → Type 0) (k : K) (v : X) (es : List (K × X)) → AllByRecursion P (keys_of es) → P k → AllByRecursion P (keys_of (insert_entry R es k v))
all_with R P k v [] all p = (p, tt)
all_with R P k v (e ∷ es) all p = elim (cases_Ordering (R k e.0)) [
  | inl less ↦ rw less (p, all)
  | inr (inl equal) ↦ rw equal all
  | inr (inr greater) ↦ rw greater (all.0, all_with R P k v es all.1 p)
]

all_without : {K X : Type 0} (P : K → Type 0) (test : K → Bool) (es : List (K × X)) → AllByRecursion P (keys_of es) → AllByRecursion P (keys_of (remove_entry test es))
all_without P test [] all = tt
all_without P test (e ∷ es) all = elim (cases_Bool (test e.0)) [
  | inl is ↦ rw is all.1
  | inr isnt ↦ rw isnt (all.0, all_without P test es all.1)
]

below_all : {K : Type 0} {R : K → K → Ordering} → IsTotalOrder R → (a b : K) (ks : List K) → R a b ≡ Less → AllByRecursion (λ y. R b y ≡ Less) ks → AllByRecursion (λ y. R a y ≡ Less) ks
below_all o a b [] less all = tt
below_all o a b (k ∷ ks) less all = (o.trans a b k less all.0, below_all o a b ks less all.1)

pub sorted_with : {K X : Type 0} {R : K → K → Ordering} → IsTotalOrder R → (k : K) (v : X) (es : List (K × X)) → IsStrictlySortedBy R (keys_of es) → IsStrictlySortedBy R (keys_of (insert_entry R es k v))
unfolding IsStrictlySortedBy
sorted_with o k v [] sorted = (tt, tt)
sorted_with {R = R} o k v (e ∷ es) sorted = elim (cases_Ordering (R k e.0)) [
  | inl less ↦ rw less ((less, below_all o k e.0 (keys_of es) less sorted.0), sorted)
  | inr (inl equal) ↦ rw equal sorted
  | inr (inr greater) ↦
      let less : R e.0 k ≡ Less = o.antisymm e.0 k ∙ ap ordering_reverse greater in
      rw greater (all_with R (λ y. R e.0 y ≡ Less) k v es sorted.0 less, sorted_with o k v es sorted.1)
]

pub sorted_without : {K X : Type 0} (R : K → K → Ordering) (test : K → Bool) (es : List (K × X)) → IsStrictlySortedBy R (keys_of es) → IsStrictlySortedBy R (keys_of (remove_entry test es))
unfolding IsStrictlySortedBy
sorted_without R test [] sorted = tt
sorted_without R test (e ∷ es) sorted = elim (cases_Bool (test e.0)) [
  | inl is ↦ rw is sorted.1
  | inr isnt ↦ rw isnt (all_without (λ y. R e.0 y ≡ Less) test es sorted.0, sorted_without R test es sorted.1)
]

-- ---- the values

pub swapped : {X : Type 0} (x y : X) (xs : List X) → IsPermutation (x ∷ y ∷ xs) (y ∷ x ∷ xs)
swapped x y xs = IsPermutation-append_left xs (x ∷ y ∷ []) (y ∷ x ∷ []) (IsPermutation-append_comm (x ∷ []) (y ∷ []))

pub values_with : {K X : Type 0} (R : K → K → Ordering) (k : K) (v : X) (es : List (K × X)) → lookup (is_at (R k)) es ≡ None → IsPermutation (v ∷ values_of es) (values_of (insert_entry R es k v))
values_with R k v [] none = IsPermutation-refl (v ∷ [])
values_with R k v (e ∷ es) none = elim (cases_Ordering (R k e.0)) [
  | inl less ↦ rw less (IsPermutation-refl (v ∷ e.1 ∷ values_of es))
  | inr (inl equal) ↦ absurd (let f = rw equal at none in cc f)
  | inr (inr greater) ↦
      let rest = values_with R k v es (rw greater at none) in
      rw greater (IsPermutation-trans _ _ _ (swapped v e.1 (values_of es)) (IsPermutation-cons e.1 _ _ rest))
]

pub values_without : {K X : Type 0} (test : K → Bool) (x : X) (es : List (K × X)) → lookup test es ≡ Some x → IsPermutation (values_of es) (x ∷ values_of (remove_entry test es))
values_without test x [] some = absurd (cc some)
values_without {X = X} test x (e ∷ es) some = elim (cases_Bool (test e.0)) [
  | inl is ↦
      let f = rw is at some in
      let same : e.1 ≡ x = cc f in
      rw is (subst (λ (z : X). IsPermutation (e.1 ∷ values_of es) (z ∷ values_of es)) same (IsPermutation-refl (e.1 ∷ values_of es)))
  | inr isnt ↦
      let rest = values_without test x es (rw isnt at some) in
      rw isnt (IsPermutation-trans _ _ _ (IsPermutation-cons e.1 _ _ rest) (swapped e.1 x (values_of (remove_entry test es))))
]
