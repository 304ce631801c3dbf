-- Values that are built one after the other, and of others.
use Rattle.std.proofs.Common.{◌≡◌, ℕ, ◌++◌, ◌⊎◌, ◌&&◌, Bool, true, false, List, [], ◌∷◌, Option, Some, None, refl, sym, ap, ◌∙◌, subst, append_assoc, inl, inr}
use Rattle.std.specs.Prelude.{is_some}
use Rattle.cqlp_kind.specs.CellStep.{CellEvent}
use Rattle.cqlp_build_cells.specs.declared.held.Fault.{Fault}
use Rattle.cqlp_build_cells.specs.declared.held.Fault.TheVariants as fault
use Rattle.cqlp_build_cells.specs.declared.held.CellEvents.{CellEvents}
use Rattle.cqlp_build_cells.specs.declared.step.Step.{Step}
use Rattle.cqlp_build_cells.specs.CellEvents.{Builds, IsSound, IsRefused, TakesStep, any, first_fault, left, emitted_at}

pub both : (a b : Bool) → (a && b) ≡ true → (a ≡ true) × (b ≡ true)
both true b e = (refl, e)
both false b e = absurd cc

pub join : (a b : Bool) → a ≡ true → b ≡ true → (a && b) ≡ true
join true b d e = e
join false b d e = absurd cc

pub some_of : {F : Type 0} (o : Option F) → is_some o ≡ true → (f : F) × (o ≡ Some f)
some_of (Some f) e = (f, refl)
some_of None e = absurd cc

-- no value of which P holds
abbrev pub AreNone : {A : Type 0} → (h : A → List CellEvent) → (P : A → Type 0) → CellEvents → Type 0
AreNone {A} h P old = IsSound old × ((b : A) (rest : List CellEvent) → P b → left old ≡ h b ++ rest → ⊥)

module _ {A : Type 0} {h : A → List CellEvent} {P : A → Type 0} where
  -- where memory was refused nothing is said
  pub no_memory : (a : A) {old new : CellEvents} → new.fault ≡ Some fault.NoMemory → Builds h P a old new
  no_memory a e = record { made = λ s. absurd cc; only = λ s. absurd cc; none = λ s. absurd cc }

  -- after a fault nothing is taken
  pub stuck : (a : A) (f : Fault) {old : CellEvents} → old.fault ≡ Some f → Builds h P a old old
  stuck a f e = record { made = λ s. absurd cc; only = λ s. absurd cc; none = λ s. inl s }

  -- after a fault no value counts
  pub other_value : {a : A} (b : A) (f : Fault) {old new : CellEvents} → new.fault ≡ Some f → Builds h P a old new → Builds h P b old new
  other_value b f e x = record { made = λ s. absurd cc; only = λ s. absurd cc; none = x.none }

-- ---- one after the other

pair_is : {A B : Type 0} (p q : A × B) → p.0 ≡ q.0 → p.1 ≡ q.1 → p ≡ q
pair_is p q e d = λ i. (e i, d i)

module _ {A B : Type 0} (h : A → List CellEvent) (g : B → List CellEvent) (P : A → Type 0) (Q : A → B → Type 0) where
  pair_none : (a : A) (old mid : CellEvents) → Builds h P a old mid → IsRefused mid ⊎ AreNone g (Q a) mid
      → IsRefused old ⊎ AreNone {A = A × B} (λ p. h p.0 ++ g p.1) (λ p. P p.0 × Q p.0 p.1) old
  pair_none a old mid one (inl e) =
      elim (one.none e) [
        | inl k ↦ inl k
        | inr k ↦ inr (k.0, λ b rest p e. k.1 b.0 (g b.1 ++ rest) p.0 (e ∙ append_assoc (h b.0) (g b.1) rest))
      ]
  pair_none a old mid one (inr n) =
      inr (
        (one.made n.0).0,
        λ b rest p e.
            let o = one.only n.0 b.0 (g b.1 ++ rest) p.0 (e ∙ append_assoc (h b.0) (g b.1) rest) in
            n.1 b.1 rest (subst (λ (x : A). Q x b.1) o.0 p.1) (sym o.1),
      )

module _ {A B : Type 0} {h : A → List CellEvent} {g : B → List CellEvent} {P : A → Type 0} (Q : A → B → Type 0) where
  -- one value and another, of which may be asked what the first is
  pub pair_builds : {a : A} {b : B} {old mid new : CellEvents} → Builds h P a old mid → Builds g (Q a) b mid new
      → Builds {A = A × B} (λ p. h p.0 ++ g p.1) (λ p. P p.0 × Q p.0 p.1) (a, b) old new
  pair_builds {a} {b} {old} {mid} {new} one two = record {
    made = λ s.
        let t = two.made s in
        let o = one.made t.0 in
        (o.0, o.1 ∙ ap (λ r. h a ++ r) t.1 ∙ sym (append_assoc (h a) (g b) (left new)), (o.2, t.2));
    only = λ s c rest p e.
        let t = two.made s in
        let o = one.only t.0 c.0 (g c.1 ++ rest) p.0 (e ∙ append_assoc (h c.0) (g c.1) rest) in
        let u = two.only s c.1 rest (subst (λ (x : A). Q x c.1) o.0 p.1) (sym o.1) in
        (pair_is c (a, b) o.0 u.0, u.1);
    none = λ s. pair_none h g P Q a old mid one (two.none s);
  }

module _ {A B : Type 0} {h : A → List CellEvent} {g : B → List CellEvent} {P : A → Type 0} {Q : B → Type 0} where
  infixl 40 ◌then◌
  -- one value and another
  pub ◌then◌ : {a : A} {b : B} {old mid new : CellEvents} → Builds h P a old mid → Builds g Q b mid new
      → Builds {A = A × B} (λ p. h p.0 ++ g p.1) (λ p. P p.0 × Q p.1) (a, b) old new
  one then two = pair_builds (λ x. Q) one two

-- ---- as another value

-- what a value of the one kind is as one of the other
abbrev pub Views : {A B : Type 0} → (P : A → Type 0) → (Q : B → Type 0) → (A → B) → Type 0
Views {A} {B} P Q f = (b : B) → Q b → (a : A) × (P a) × (b ≡ f a)

module _ {A B : Type 0} {h : A → List CellEvent} {P : A → Type 0} (g : B → List CellEvent) (Q : B → Type 0) (f : A → B)
    (same : (a : A) → P a → g (f a) ≡ h a) (on : (a : A) → P a → Q (f a)) (view : Views P Q f) where
  back : (old : CellEvents) (rest : List CellEvent) (b : B) (q : Q b) → left old ≡ g b ++ rest → left old ≡ h (view b q).0 ++ rest
  back old rest b q e = let v = view b q in e ∙ ap (λ x. g x ++ rest) v.2 ∙ ap (λ x. x ++ rest) (same v.0 v.1)

  as_none : (old : CellEvents) → IsRefused old ⊎ AreNone h P old → IsRefused old ⊎ AreNone g Q old
  as_none old (inl k) = inl k
  as_none old (inr k) = inr (k.0, λ b rest q e. k.1 (view b q).0 rest (view b q).1 (back old rest b q e))

  -- a value of another kind that has the same events
  pub as_builds : {a : A} {old new : CellEvents} → Builds h P a old new → Builds g Q (f a) old new
  as_builds {a} {old} {new} x = record {
    made = λ s. let m = x.made s in (m.0, m.1 ∙ ap (λ t. t ++ left new) (sym (same a m.2)), on a m.2);
    only = λ s b rest q e.
        let o = x.only s (view b q).0 rest (view b q).1 (back old rest b q e) in
        ((view b q).2 ∙ ap f o.0, o.1);
    none = λ s. as_none old (x.none s);
  }

-- ---- what the events say by themselves

module _ {A : Type 0} (h : A → List CellEvent) (P S : A → Type 0) where
  free_none : (old : CellEvents) → ((b : A) (rest : List CellEvent) → P b → left old ≡ h b ++ rest → S b)
      → IsRefused old ⊎ AreNone h (λ b. P b × S b) old → IsRefused old ⊎ AreNone h P old
  free_none old says (inl r) = inl r
  free_none old says (inr n) = inr (n.0, λ b rest p e. n.1 b rest (p, says b rest p e) e)

module _ {A : Type 0} {h : A → List CellEvent} {P : A → Type 0} (S : A → Type 0) where
  -- What the events that came say of each such value need not be asked.
  pub free : {a : A} {old new : CellEvents} → ((b : A) (rest : List CellEvent) → P b → left old ≡ h b ++ rest → S b)
      → Builds h (λ b. P b × S b) a old new → Builds h P a old new
  free {a} {old} {new} says x = record {
    made = λ s. let m = x.made s in (m.0, m.1, m.2.0);
    only = λ s b rest p e. x.only s b rest (p, says b rest p e) e;
    none = λ s. free_none h P S old says (x.none s);
  }

never : (o : Option Fault) → first_fault o fault.NoValue ≡ None → ⊥
never None e = absurd cc
never (Some g) e = absurd cc

module _ {A : Type 0} (h : A → List CellEvent) (P : A → Type 0) where
  later_refused : (old mid new : CellEvents) → mid.fault ≡ old.fault → new.fault ≡ first_fault mid.fault fault.NoValue → (IsSound old → (b : A) (rest : List CellEvent) → P b → left old ≡ h b ++ rest → ⊥)
      → (o : Option Fault) → old.fault ≡ o → IsRefused new → IsRefused old ⊎ AreNone h P old
  later_refused old mid new k f but None is r = inr (is, but is)
  later_refused old mid new k f but (Some g) is r = inl (is ∙ (sym (ap (λ o. first_fault o fault.NoValue) (k ∙ is)) ∙ (sym f ∙ r)))

module _ {A : Type 0} {h : A → List CellEvent} {P : A → Type 0} where
  -- refused, after something that was taken or not, where no value has the events
  pub refused_later : (a : A) (old mid new : CellEvents) → mid.fault ≡ old.fault → new.fault ≡ first_fault mid.fault fault.NoValue → (IsSound old → (b : A) (rest : List CellEvent) → P b → left old ≡ h b ++ rest → ⊥) → Builds h P a old new
  refused_later a old mid new k f but = record {
    made = λ s. absurd (never mid.fault (sym f ∙ s));
    only = λ s. absurd (never mid.fault (sym f ∙ s));
    none = λ r. later_refused h P old mid new k f but old.fault refl r;
  }

  -- the same at once
  pub refused_builds : (a : A) (old new : CellEvents) → new.fault ≡ first_fault old.fault fault.NoValue → ((b : A) (rest : List CellEvent) → P b → left old ≡ h b ++ rest → ⊥) → Builds h P a old new
  refused_builds a old new f but = refused_later a old old new refl f (λ s. but)

  -- nothing more comes of it
  pub nothing_more : (a : A) (old : CellEvents) → h a ≡ [] → P a → ((b : A) → P b → b ≡ a) → Builds h P a old old
  nothing_more a old nil p one = record {
    made = λ s. (s, ap (λ es. es ++ left old) (sym nil), p);
    only = λ s b rest q e. (one b q, sym (e ∙ ap (λ x. h x ++ rest) (one b q) ∙ ap (λ es. es ++ rest) nil));
    none = λ s. inl s;
  }

-- ---- one event

pub step_builds : (level : ℕ) (s : Step) {old new : CellEvents} → TakesStep level (Some s) old new → Builds {A = Unit {0}} (λ _. emitted_at level s ∷ []) any tt old new
step_builds level s {old} {new} t = record {
  made = λ x. (t.0, t.1, refl);
  only = λ x u rest p e. let d : emitted_at level s ∷ rest ≡ emitted_at level s ∷ left new = sym e ∙ t.1 in (refl, cc);
  none = λ r. let d : None ≡ Some fault.NoValue = sym t.2 ∙ r in absurd cc;
}

-- the same value, if it is one
pub as_same : {A : Type 0} {h : A → List CellEvent} {P : A → Type 0} {a : A} (b : A) {old new : CellEvents} → (P a → a ≡ b) → Builds h P a old new → Builds h P b old new
as_same {A} {h} {P} {a} b {old} {new} same x = record {
  made = λ s. let m = x.made s in (m.0, m.1 ∙ ap (λ y. h y ++ left new) (same m.2), subst P (same m.2) m.2);
  only = λ s c rest p e. let o = x.only s c rest p e in (o.0 ∙ same (x.made s).2, o.1);
  none = x.none;
}

-- the same, of a test in other words
pub with_flag : {B : Type 0} {g : B → List CellEvent} (Q : Bool → B → Type 0) {x y : Bool} → x ≡ y → {b : B} {old new : CellEvents} → Builds g (Q x) b old new → Builds g (Q y) b old new
with_flag {B} {g} Q e {b} {old} {new} one = subst (λ (t : Bool). Builds g (Q t) b old new) e one
