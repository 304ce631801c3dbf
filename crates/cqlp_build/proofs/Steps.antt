-- Values that are built one after the other, and of others.
use Rattle.std.proofs.Common.{◌≡◌, ◌++◌, ◌⊎◌, List, Bool, Some, sym, ap, ◌∙◌, subst, append_assoc, inl, inr}
use Rattle.cqlp_build.specs.declared.held.Fault.{Fault}
use Rattle.cqlp_build.specs.declared.held.Fault.TheVariants as fault
use Rattle.cqlp_build.specs.declared.held.FrameEvents.{FrameEvents}
use Rattle.std.proofs.lemmas.Grind.{flat_map-append}
use Rattle.cqlp_grammar.specs.Events.{Event}
use Rattle.cqlp_message.specs.Parts.{Part}
use Rattle.cqlp_build.specs.Emitted.{part_emitted, emitted}
use Rattle.cqlp_build.specs.FrameEvents.{Builds, IsSound, IsRefused, left}

module _ {A : Type 0} {h : A → List Event} {P : A → Type 0} where
  -- where memory was refused nothing is said
  pub no_memory : (a : A) {old new : FrameEvents} → new.fault ≡ Some fault.NoMemory → Builds h P a old new
  no_memory a e = record { made = λ s. absurd cc; only = λ s. absurd cc; none = λ s. absurd cc }

  -- after a fault nothing is taken
  pub stuck : (a : A) (f : Fault) {old : FrameEvents} → old.fault ≡ Some f → Builds h P a old old
  stuck a f e = record { made = λ s. absurd cc; only = λ s. absurd cc; none = λ s. inl s }

  -- after a fault no value counts
  pub other_value : {a : A} (b : A) (f : Fault) {old new : FrameEvents} → new.fault ≡ Some f → Builds h P a old new → Builds h P b old new
  other_value b f e x = record { made = λ s. absurd cc; only = λ s. absurd cc; none = x.none }

-- no value of which P holds
abbrev pub AreNone : {A : Type 0} → (h : A → List Event) → (P : A → Type 0) → FrameEvents → Type 0
AreNone {A} h P old = IsSound old × ((b : A) (rest : List Event) → P b → left old ≡ h b ++ rest → ⊥)

-- ---- one after the other

pair_is : {A B : Type 0} (p q : A × B) → p.0 ≡ q.0 → p.1 ≡ q.1 → p ≡ q
pair_is p q e d = λ i. (e i, d i)

module _ {A B : Type 0} (h : A → List Event) (g : A → B → List Event) (P : A → Type 0) (Q : A → B → Type 0) where
  moved : (a x : A) (b : B) (rest : List Event) (mid : FrameEvents) → x ≡ a → g x b ++ rest ≡ left mid → left mid ≡ g a b ++ rest
  moved a x b rest mid e d = sym d ∙ ap (λ y. g y b ++ rest) e

  pair_none : (a : A) (old mid : FrameEvents) → Builds h P a old mid → IsRefused mid ⊎ AreNone (g a) (Q a) mid
      → IsRefused old ⊎ AreNone {A = A × B} (λ p. h p.0 ++ g p.0 p.1) (λ p. P p.0 × Q p.0 p.1) old
  pair_none a old mid one (inl e) =
      elim (one.none e) [
        | inl k ↦ inl k
        | inr k ↦ inr (k.0, λ b rest p e. k.1 b.0 (g b.0 b.1 ++ rest) p.0 (e ∙ append_assoc (h b.0) (g b.0 b.1) rest))
      ]
  pair_none a old mid one (inr n) =
      inr (
        (one.made n.0).0,
        λ b rest p e.
            let o = one.only n.0 b.0 (g b.0 b.1 ++ rest) p.0 (e ∙ append_assoc (h b.0) (g b.0 b.1) rest) in
            n.1 b.1 rest (subst (λ (x : A). Q x b.1) o.0 p.1) (moved a b.0 b.1 rest mid o.0 o.1),
      )

module _ {A B : Type 0} {h : A → List Event} {P : A → Type 0} (g : A → B → List Event) (Q : A → B → Type 0) where
  -- one value and another, of which the first says what its events are, and what may be asked of it
  pub after_builds : {a : A} {b : B} {old mid new : FrameEvents} → Builds h P a old mid → Builds (g a) (Q a) b mid new
      → Builds {A = A × B} (λ p. h p.0 ++ g p.0 p.1) (λ p. P p.0 × Q p.0 p.1) (a, b) old new
  after_builds {a} {b} {old} {mid} {new} one two = record {
    made = λ s.
        let t = two.made s in
        let o = one.made t.0 in
        (o.0, o.1 ∙ ap (λ r. h a ++ r) t.1 ∙ sym (append_assoc (h a) (g a b) (left new)), (o.2, t.2));
    only = λ s c rest p e.
        let t = two.made s in
        let o = one.only t.0 c.0 (g c.0 c.1 ++ rest) p.0 (e ∙ append_assoc (h c.0) (g c.0 c.1) rest) in
        let u = two.only s c.1 rest (subst (λ (x : A). Q x c.1) o.0 p.1) (moved h g P Q a c.0 c.1 rest mid o.0 o.1) in
        (pair_is c (a, b) o.0 u.0, u.1);
    none = λ s. pair_none h g P Q a old mid one (two.none s);
  }

module _ {A B : Type 0} {h : A → List Event} {g : B → List Event} {P : A → Type 0} (Q : A → B → Type 0) where
  -- one value and another, of which may be asked what the first is
  pub pair_builds : {a : A} {b : B} {old mid new : FrameEvents} → Builds h P a old mid → Builds g (Q a) b mid new
      → Builds {A = A × B} (λ p. h p.0 ++ g p.1) (λ p. P p.0 × Q p.0 p.1) (a, b) old new
  pair_builds one two = after_builds (λ x. g) Q one two

module _ {A B : Type 0} {h : A → List Event} {g : B → List Event} {P : A → Type 0} {Q : B → Type 0} where
  infixl 40 ◌then◌
  -- one value and another
  pub ◌then◌ : {a : A} {b : B} {old mid new : FrameEvents} → Builds h P a old mid → Builds g Q b mid new
      → Builds {A = A × B} (λ p. h p.0 ++ g p.1) (λ p. P p.0 × Q p.1) (a, b) old new
  one then two = pair_builds (λ x. Q) one two

-- ---- as another value

-- what a value of the one kind is as one of the other
abbrev pub Views : {A B : Type 0} → (h : A → List Event) → (g : B → List Event) → (P : A → Type 0) → (Q : B → Type 0) → (A → B) → Type 0
Views {A} {B} h g P Q f = (b : B) → Q b → (a : A) × (P a) × (b ≡ f a)

module _ {A B : Type 0} {h : A → List Event} {P : A → Type 0} (g : B → List Event) (Q : B → Type 0) (f : A → B)
    (same : (a : A) → P a → g (f a) ≡ h a) (on : (a : A) → P a → Q (f a)) (view : Views h g P Q f) where
  back : (old : FrameEvents) (rest : List Event) (b : B) (q : Q b) → left old ≡ g b ++ rest → left old ≡ h (view b q).0 ++ rest
  back old rest b q e = let v = view b q in e ∙ ap (λ x. g x ++ rest) v.2 ∙ ap (λ x. x ++ rest) (same v.0 v.1)

  as_none : (old : FrameEvents) → IsRefused old ⊎ AreNone h P old → IsRefused old ⊎ AreNone g Q old
  as_none old (inl k) = inl k
  as_none old (inr k) = inr (k.0, λ b rest q e. k.1 (view b q).0 rest (view b q).1 (back old rest b q e))

  -- a value of another kind that has the same events
  pub as_builds : {a : A} {old new : FrameEvents} → Builds h P a old new → Builds g Q (f a) old new
  as_builds {a} {old} {new} x = record {
    made = λ s. let m = x.made s in (m.0, m.1 ∙ ap (λ t. t ++ left new) (sym (same a m.2)), on a m.2);
    only = λ s b rest q e.
        let o = x.only s (view b q).0 rest (view b q).1 (back old rest b q e) in
        ((view b q).2 ∙ ap f o.0, o.1);
    none = λ s. as_none old (x.none s);
  }

-- the same, of what was built
pub made_of : {A B : Type 0} {h : A → List Event} {P : A → Type 0} {a : A} {old new : FrameEvents} → Builds h P a old new → (g : B → List Event) (Q : B → Type 0) (f : A → B)
    → ((a : A) → P a → g (f a) ≡ h a) → ((a : A) → P a → Q (f a)) → Views h g P Q f → Builds g Q (f a) old new
made_of one g Q f same on view = as_builds g Q f same on view one

-- the same, of a test in other words
pub with_flag : {B : Type 0} {g : B → List Event} (Q : Bool → B → Type 0) {x y : Bool} → x ≡ y → {b : B} {old new : FrameEvents} → Builds g (Q x) b old new → Builds g (Q y) b old new
with_flag {B} {g} Q e {b} {old} {new} one = subst (λ (t : Bool). Builds g (Q t) b old new) e one

-- ---- the events of parts one after the other

pub emitted_append : (ps qs : List Part) → emitted (ps ++ qs) ≡ emitted ps ++ emitted qs
emitted_append ps qs = flat_map-append part_emitted ps qs

pub emitted_three : (a b c : List Part) → emitted (a ++ b ++ c) ≡ emitted a ++ emitted b ++ emitted c
emitted_three a b c = emitted_append (a ++ b) c ∙ ap (λ es. es ++ emitted c) (emitted_append a b)

pub emitted_four : (a b c d : List Part) → emitted (a ++ b ++ c ++ d) ≡ emitted a ++ emitted b ++ emitted c ++ emitted d
emitted_four a b c d = emitted_append (a ++ b ++ c) d ∙ ap (λ es. es ++ emitted d) (emitted_three a b c)

pub emitted_five : (a b c d e : List Part) → emitted (a ++ b ++ c ++ d ++ e) ≡ emitted a ++ emitted b ++ emitted c ++ emitted d ++ emitted e
emitted_five a b c d e = emitted_append (a ++ b ++ c ++ d) e ∙ ap (λ es. es ++ emitted e) (emitted_four a b c d)
