-- Items that are built one after the other.
use Rattle.std.proofs.Common.{◌≡◌, ℕ, suc, ◌+◌, ◌-◌, ◌≤◌, ◌++◌, ◌⊎◌, List, [], ◌∷◌, Option, Some, None, refl, sym, ap, ◌∙◌, subst, append_assoc, append-nil, arith, inl, inr}
use Rattle.std.specs.Prelude.{Bool, true, false, ◌&&◌, is_some}
use Rattle.std.specs.List.{flat_map, list_all}
use Rattle.cqlp_build.specs.declared.held.FrameEvents.{FrameEvents}
use Rattle.cqlp_build.specs.declared.held.Fault.TheVariants as fault
use Rattle.cqlp_grammar.specs.Events.{Event}
use Rattle.cqlp_build.specs.FrameEvents.{Builds, Many, left}
use Rattle.cqlp_build.proofs.Steps.{stuck, other_value}

pub both : (a b : Bool) → (a && b) ≡ true → (a ≡ true) × (b ≡ true)
both true b e = (refl, e)
both false b e = absurd cc

pub join : (a b : Bool) → a ≡ true → b ≡ true → (a && b) ≡ true
join true b d e = e
join false b d e = absurd cc

module _ {A : Type 0} (emitted : A → List Event) (t : A → Bool) where
  nil_only : (old : FrameEvents) (b : List A) (rest : List Event) → Many t 0 b → left old ≡ flat_map emitted b ++ rest → (b ≡ []) × (rest ≡ left old)
  nil_only old [] rest m e = (refl, sym e)
  nil_only old (x ∷ xs) rest m e = absurd (omega (arith, m.0))

  pub nil_built : (old : FrameEvents) → Builds (flat_map emitted) (Many t 0) [] old old
  nil_built old = record {
    made = λ s. (s, refl, (refl, refl));
    only = λ s b rest. nil_only old b rest;
    none = λ s. inl s;
  }

  -- no first item, or none after it
  abbrev No : FrameEvents → (List A → Type 0) → (List A → List Event) → Type 0
  No h P without_offsets = (h.fault ≡ None) × ((ys : List A) (rest : List Event) → P ys → left h ≡ without_offsets ys ++ rest → ⊥)

  split : (a : FrameEvents) (n : ℕ) (R : Type 0) (ys : List A) (rest : List Event) → Many t (suc n) ys → left a ≡ flat_map emitted ys ++ rest
      → ((z : A) (zs : List A) → ys ≡ z ∷ zs → t z ≡ true → Many t n zs → left a ≡ emitted z ++ (flat_map emitted zs ++ rest) → R) → R
  split a n R [] rest m e k = absurd (omega (arith, m.0))
  split a n R (y ∷ ys) rest m e k =
      let h = both (t y) (list_all t ys) m.1 in
      k y ys refl h.0 (omega (arith, m.0), h.1) (e ∙ append_assoc (emitted y) (flat_map emitted ys) rest)

  cons_none : (n : ℕ) (x : A) (xs : List A) (a b c : FrameEvents) → Builds emitted (λ v. t v ≡ true) x a b → Builds (flat_map emitted) (Many t n) xs b c → c.fault ≡ Some fault.NoFrame
      → (b.fault ≡ Some fault.NoFrame) ⊎ No b (Many t n) (flat_map emitted) → (a.fault ≡ Some fault.NoFrame) ⊎ No a (Many t (suc n)) (flat_map emitted)
  cons_none n x xs a b c one more s (inl h) =
      elim (one.none h) [
        | inl k ↦ inl k
        | inr k ↦ inr (k.0, λ ys rest m e. split a n ⊥ ys rest m e (λ z zs is tz mz ez. k.1 z (flat_map emitted zs ++ rest) tz ez))
      ]
  cons_none n x xs a b c one more s (inr h) =
      inr (
        (one.made h.0).0,
        λ ys rest m e. split a n ⊥ ys rest m e (λ z zs is tz mz ez.
            let o = one.only h.0 z (flat_map emitted zs ++ rest) tz ez in
            h.1 zs rest mz (sym o.1)),
      )

  pub cons_built : (n : ℕ) {x : A} {xs : List A} {a b c : FrameEvents} → Builds emitted (λ v. t v ≡ true) x a b → Builds (flat_map emitted) (Many t n) xs b c → Builds (flat_map emitted) (Many t (suc n)) (x ∷ xs) a c
  cons_built n {x} {xs} {a} {b} {c} one more = record {
    made = λ s.
        let m = more.made s in
        let o = one.made m.0 in
        (o.0, o.1 ∙ ap (λ r. emitted x ++ r) m.1 ∙ sym (append_assoc (emitted x) (flat_map emitted xs) (left c)), (omega (arith, m.2.0), join (t x) (list_all t xs) o.2 m.2.1));
    only = λ s ys rest h e. split a n ((ys ≡ x ∷ xs) × (rest ≡ left c)) ys rest h e (λ z zs is tz mz ez.
        let m = more.made s in
        let o = one.only m.0 z (flat_map emitted zs ++ rest) tz ez in
        let p = more.only s zs rest mz (sym o.1) in
        (cc, p.1));
    none = λ s. cons_none n x xs a b c one more s (more.none s);
  }

  -- What is still to be built of n items, when these are.
  pub record Remains (n : ℕ) (start now : FrameEvents) (i : ℕ) (xs : List A) : Type 0 where
    pub remains : (k : ℕ) (zs : List A) (end : FrameEvents) → i + k ≡ n → Builds (flat_map emitted) (Many t k) zs now end → Builds (flat_map emitted) (Many t n) (xs ++ zs) start end

  pub remains_all : (n : ℕ) (start : FrameEvents) → Remains n start start 0 []
  remains_all n start = record { remains = λ k zs end e h. let is : k ≡ n = omega (arith, e) in subst (λ m. Builds (flat_map emitted) (Many t m) zs start end) is h }

  pub remains_more : (n : ℕ) (start now next : FrameEvents) (i : ℕ) (xs : List A) (x : A) → Remains n start now i xs → Builds emitted (λ v. t v ≡ true) x now next → Remains n start next (i + 1) (xs ++ x ∷ [])
  remains_more n start now next i xs x r h = record {
    remains = λ k zs end e more. rw append_assoc (r.remains (suc k) (x ∷ zs) end (omega (arith, e)) (cons_built k h more));
  }

  pub remains_none : (n : ℕ) (start now : FrameEvents) (i : ℕ) (xs : List A) → i ≤ n → n ≤ i → Remains n start now i xs → Builds (flat_map emitted) (Many t n) xs start now
  remains_none n start now i xs l m r = rw append-nil at (r.remains 0 [] now (omega arith) (nil_built now))

  -- a fault ends it
  pub remains_stuck : (n : ℕ) (start now : FrameEvents) (i : ℕ) (xs ys : List A) (f : _) → i ≤ n → now.fault ≡ Some f → Remains n start now i xs → Builds (flat_map emitted) (Many t n) ys start now
  remains_stuck n start now i xs ys f l e r = other_value ys f e (r.remains (n - i) [] now (omega arith) (stuck [] f e))

pub some_of : {F : Type 0} (o : Option F) → is_some o ≡ true → (f : F) × (o ≡ Some f)
some_of (Some f) e = (f, refl)
some_of None e = absurd cc

pub none_of : {F : Type 0} (o : Option F) → is_some o ≡ false → o ≡ None
none_of None e = refl
none_of (Some f) e = absurd cc
