-- Look-ups among entries of which the latest stay.
use Rattle.std.proofs.Common.{inl, inr, ◌⊎◌, ◌≡◌, ◌≤◌, ◌-◌, ℕ, zero, suc, Bool, true, false, List, [], ◌∷◌, length, take, refl, sym, ap, subst, ◌∙◌, arith, Option, Some, None}
use Rattle.std.specs.Map.{lookup, lookup_entry, remove_entry}
use Rattle.std.proofs.lemmas.Bool.{cases_Bool}
use Rattle.std.proofs.lemmas.List.{take_all}
use Rattle.cqlp_capture_prepared.specs.Latest.{Latest, put, used}

pub cases_Option : {X : Type 0} (o : Option X) → (o ≡ None) ⊎ ((x : X) × (o ≡ Some x))
cases_Option None = inl refl
cases_Option (Some x) = inr (x, refl)

module _ {K V : Type 0} where
  pub lookup_take : (test : K → Bool) (n : ℕ) (es : List (K × V)) (v : V) → lookup test (take n es) ≡ Some v → lookup test es ≡ Some v
  lookup_take test zero es v e = absurd (cc e)
  lookup_take test (suc n) [] v e = absurd (cc e)
  lookup_take test (suc n) (x ∷ es) v e = elim (cases_Bool (test x.0)) [
    | inl is ↦ rw is (rw is at e)
    | inr isnt ↦ rw isnt (lookup_take test n es v (rw isnt at e))
  ]

  none_take : (test : K → Bool) (n : ℕ) (es : List (K × V)) → lookup test es ≡ None → lookup test (take n es) ≡ None
  none_take test zero es e = refl
  none_take test (suc n) [] e = refl
  none_take test (suc n) (x ∷ es) e = elim (cases_Bool (test x.0)) [
    | inl is ↦ absurd (let f = rw is at e in cc f)
    | inr isnt ↦ rw isnt (none_take test n es (rw isnt at e))
  ]

  none_removed : (test other : K → Bool) (es : List (K × V)) → lookup test es ≡ None → lookup test (remove_entry other es) ≡ None
  none_removed test other [] e = refl
  none_removed test other (x ∷ es) e = elim (cases_Bool (test x.0)) [
    | inl is ↦ absurd (let f = rw is at e in cc f)
    | inr isnt ↦ elim (cases_Bool (other x.0)) [
      | inl one ↦ rw one (rw isnt at e)
      | inr another ↦ rw another (rw isnt (none_removed test other es (rw isnt at e)))
    ]
  ]

  pub found : (test : K → Bool) (es : List (K × V)) (x : K × V) → lookup_entry test es ≡ Some x → (test x.0 ≡ true) × (lookup test es ≡ Some x.1)
  found test [] x e = absurd (cc e)
  found test (y ∷ es) x e = elim (cases_Bool (test y.0)) [
    | inl is ↦
        let f : Some y ≡ Some x = rw is at e in
        let same : y ≡ x = cc f in
        (subst (λ (z : K × V). test z.0 ≡ true) same is, rw is (ap (λ (z : K × V). Some z.1) same))
    | inr isnt ↦
        let rest = found test es x (rw isnt at e) in
        (rest.0, rw isnt rest.1)
  ]

  pub length_without_one : (test : K → Bool) (es : List (K × V)) (v : V) → lookup test es ≡ Some v → suc (length (remove_entry test es)) ≡ length es
  length_without_one test [] v e = absurd (cc e)
  length_without_one test (x ∷ es) v e = elim (cases_Bool (test x.0)) [
    | inl is ↦ rw is refl
    | inr isnt ↦ rw isnt (ap suc (length_without_one test es v (rw isnt at e)))
  ]

  pub without_none : (test : K → Bool) (es : List (K × V)) → lookup test es ≡ None → remove_entry test es ≡ es
  without_none test [] e = refl
  without_none test (x ∷ es) e = elim (cases_Bool (test x.0)) [
    | inl is ↦ absurd (let f = rw is at e in cc f)
    | inr isnt ↦ rw isnt (ap (λ (r : List (K × V)). x ∷ r) (without_none test es (rw isnt at e)))
  ]

module _ {K V : Type 0} (eq : K → K → Bool) (same : (a b : K) → eq a b ≡ true → a ≡ b) where
  pub lookup_other : (q k : K) (es : List (K × V)) → eq q k ≡ false → lookup (eq q) (remove_entry (eq k) es) ≡ lookup (eq q) es
  lookup_other q k [] apart = refl
  lookup_other q k (x ∷ es) apart = elim (cases_Bool (eq k x.0)) [
    | inl is ↦
        let isnt : eq q x.0 ≡ false = subst (λ (z : K). eq q z ≡ false) (same k x.0 is) apart in
        rw (is, isnt) refl
    | inr isnt ↦ elim (cases_Bool (eq q x.0)) [
      | inl here ↦ rw (isnt, here) refl
      | inr not_here ↦ rw (isnt, not_here) (lookup_other q k es apart)
    ]
  ]

  -- No key comes twice.
  abbrev pub Apart : List (K × V) → Type 0
  Apart [] = Unit {0}
  Apart (x ∷ es) = (lookup (eq x.0) es ≡ None) × Apart es

  apart_take : (n : ℕ) (es : List (K × V)) → Apart es → Apart (take n es)
  apart_take zero es h = tt
  apart_take (suc n) [] h = tt
  apart_take (suc n) (x ∷ es) h = (none_take (eq x.0) n es h.0, apart_take n es h.1)

  pub apart_removed : (test : K → Bool) (es : List (K × V)) → Apart es → Apart (remove_entry test es)
  apart_removed test [] h = tt
  apart_removed test (x ∷ es) h = elim (cases_Bool (test x.0)) [
    | inl is ↦ rw is h.1
    | inr isnt ↦ rw isnt (none_removed (eq x.0) test es h.0, apart_removed test es h.1)
  ]

  pub removed_none : (k : K) (es : List (K × V)) → Apart es → lookup (eq k) (remove_entry (eq k) es) ≡ None
  removed_none k [] h = refl
  removed_none k (x ∷ es) h = elim (cases_Bool (eq k x.0)) [
    | inl is ↦ rw is (subst (λ (z : K). lookup (eq z) es ≡ None) (sym (same k x.0 is)) h.0)
    | inr isnt ↦ rw isnt (rw isnt (removed_none k es h.1))
  ]

  pub apart_put : (k : K) (v : V) (l : Latest K V) → Apart l.entries → Apart (put eq k v l).entries
  apart_put k v l h =
      let rest = apart_removed (eq k) l.entries h in
      (none_take (eq k) (l.limit - 1) (remove_entry (eq k) l.entries) (removed_none k l.entries h), apart_take (l.limit - 1) (remove_entry (eq k) l.entries) rest)

  -- ---- what is reported is right

  pub put_same : (q k : K) (v w : V) (l : Latest K V) → eq q k ≡ true → lookup (eq q) (put eq k v l).entries ≡ Some w → v ≡ w
  put_same q k v w l is e = let f : Some v ≡ Some w = rw is at e in cc f

  pub put_other : (q k : K) (v w : V) (l : Latest K V) → eq q k ≡ false → lookup (eq q) (put eq k v l).entries ≡ Some w → lookup (eq q) l.entries ≡ Some w
  put_other q k v w l isnt e =
      let f : lookup (eq q) (take (l.limit - 1) (remove_entry (eq k) l.entries)) ≡ Some w = rw isnt at e in
      sym (lookup_other q k l.entries isnt) ∙ lookup_take (eq q) (l.limit - 1) (remove_entry (eq k) l.entries) w f

  pub used_reported : (q k : K) (w : V) (l : Latest K V) → lookup (eq q) (used (eq k) l).entries ≡ Some w → lookup (eq q) l.entries ≡ Some w
  used_reported q k w l e = elim (cases_Option (lookup_entry (eq k) l.entries)) [
    | inl none ↦ rw none at e
    | inr some ↦
        let x = some.0 in
        let has = found (eq k) l.entries x some.1 in
        let own : k ≡ x.0 = same k x.0 has.0 in
        let reported = rw some.1 at e in
        elim (cases_Bool (eq q x.0)) [
          | inl is ↦
              let f : Some x.1 ≡ Some w = rw is at reported in
              let q_is : q ≡ k = same q x.0 is ∙ sym own in
              ap (λ (z : K). lookup (eq z) l.entries) q_is ∙ has.1 ∙ f
          | inr isnt ↦
              let f : lookup (eq q) (take (l.limit - 1) (remove_entry (eq k) l.entries)) ≡ Some w = rw isnt at reported in
              let apart : eq q k ≡ false = subst (λ (z : K). eq q z ≡ false) (sym own) isnt in
              sym (lookup_other q k l.entries apart) ∙ lookup_take (eq q) (l.limit - 1) (remove_entry (eq k) l.entries) w f
        ]
  ]

  -- ---- where none has to go

  pub all_fit : (k : K) (l : Latest K V) → suc (length (remove_entry (eq k) l.entries)) ≤ l.limit → take (l.limit - 1) (remove_entry (eq k) l.entries) ≡ remove_entry (eq k) l.entries
  all_fit k l h = take_all (l.limit - 1) (remove_entry (eq k) l.entries) (omega arith)

  pub put_here : (q k : K) (v : V) (l : Latest K V) → eq q k ≡ true → lookup (eq q) (put eq k v l).entries ≡ Some v
  put_here q k v l is = rw is refl

  pub put_there : (q k : K) (v : V) (l : Latest K V) → suc (length (remove_entry (eq k) l.entries)) ≤ l.limit → eq q k ≡ false → lookup (eq q) (put eq k v l).entries ≡ lookup (eq q) l.entries
  put_there q k v l h isnt = rw (isnt, all_fit k l h) (lookup_other q k l.entries isnt)

  pub length_put : (k : K) (v : V) (l : Latest K V) → suc (length (remove_entry (eq k) l.entries)) ≤ l.limit → length (put eq k v l).entries ≡ suc (length (remove_entry (eq k) l.entries))
  length_put k v l h = ap (λ (r : List (K × V)). suc (length r)) (all_fit k l h)

  pub used_there : (q k : K) (l : Latest K V) → length l.entries ≤ l.limit → lookup (eq q) (used (eq k) l).entries ≡ lookup (eq q) l.entries
  used_there q k l h = elim (cases_Option (lookup_entry (eq k) l.entries)) [
    | inl none ↦ rw none refl
    | inr some ↦
        let x = some.0 in
        let has = found (eq k) l.entries x some.1 in
        let own : k ≡ x.0 = same k x.0 has.0 in
        let long = length_without_one (eq k) l.entries x.1 has.1 in
        let fit = all_fit k l (omega arith) in
        elim (cases_Bool (eq q x.0)) [
          | inl is ↦
              let q_is : q ≡ k = same q x.0 is ∙ sym own in
              rw (some.1, is) (sym (ap (λ (z : K). lookup (eq z) l.entries) q_is ∙ has.1))
          | inr isnt ↦
              let apart : eq q k ≡ false = subst (λ (z : K). eq q z ≡ false) (sym own) isnt in
              rw (some.1, isnt, fit) (lookup_other q k l.entries apart)
        ]
  ]

  pub length_used : (k : K) (l : Latest K V) → length l.entries ≤ l.limit → length (used (eq k) l).entries ≡ length l.entries
  length_used k l h = elim (cases_Option (lookup_entry (eq k) l.entries)) [
    | inl none ↦ rw none refl
    | inr some ↦
        let x = some.0 in
        let has = found (eq k) l.entries x some.1 in
        let long = length_without_one (eq k) l.entries x.1 has.1 in
        let fit = all_fit k l (omega arith) in
        rw (some.1, fit) long
  ]

limit_by : {K V : Type 0} (test : K → Bool) (l : Latest K V) (o : Option (K × V)) → lookup_entry test l.entries ≡ o → (used test l).limit ≡ l.limit
limit_by test l None e = rw e refl
limit_by test l (Some x) e = rw e refl

pub limit_used : {K V : Type 0} (test : K → Bool) (l : Latest K V) → (used test l).limit ≡ l.limit
limit_used test l = limit_by test l (lookup_entry test l.entries) refl
