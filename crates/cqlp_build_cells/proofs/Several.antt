-- Values of the same types, this many times over.
use Rattle.std.proofs.Common.{◌≡◌, ℕ, suc, ◌+◌, ◌-◌, ◌≤◌, [], ◌∷◌, Some, refl, sym, subst, arith}
use Rattle.cqlp_kind.specs.Types.{Types, NoMore, followed_by}
use Rattle.cqlp_kind.specs.CellStep.{Leave}
use Rattle.cqlp_value.specs.Values.{Values, NoValue, type_copies}
use Rattle.cqlp_value.proofs.ReadBack.{with_others}
use Rattle.cqlp_build_cells.specs.declared.held.Fault.{Fault}
use Rattle.cqlp_build_cells.specs.declared.held.CellEvents.{CellEvents}
use Rattle.cqlp_build_cells.specs.CellEvents.{Builds, any}
use Rattle.cqlp_build_cells.specs.Said.{Fit, counted_said, values_said}
use Rattle.cqlp_build_cells.proofs.Said.{fit_both, none_fit, others_assoc, others_none, said_both, split}
use Rattle.cqlp_build_cells.proofs.Steps.{as_builds, nothing_more, other_value, stuck, ◌then◌}

module _ (level : ℕ) where
  -- values of these types are built
  abbrev pub BuildsAll : Types → Values → (old new : CellEvents) → Type 0
  BuildsAll ts vs old new = Builds (values_said level ts) (Fit ts) vs old new

  pub both_built : (ts us : Types) {vs ws : Values} {a b c : CellEvents} → BuildsAll ts vs a b → BuildsAll us ws b c → BuildsAll (followed_by ts us) (with_others vs ws) a c
  both_built ts us one two =
      as_builds (values_said level (followed_by ts us)) (Fit (followed_by ts us)) (λ (p : Values × Values). with_others p.0 p.1)
      (λ p q. said_both level ts us p.0 p.1 q.0) (λ p q. fit_both ts us p.0 p.1 q.0 q.1) (split ts us) (one then two)

  pub none_built : (h : CellEvents) → BuildsAll NoMore NoValue h h
  none_built h = nothing_more NoValue h refl refl none_fit

  module _ (ts : Types) where
    -- What is still to be built of n times these types, when i are.
    pub record Remains (n : ℕ) (start now : CellEvents) (i : ℕ) (xs : Values) : Type 0 where
      pub remains : (k : ℕ) (zs : Values) (end : CellEvents) → i + k ≡ n → BuildsAll (type_copies k ts) zs now end → BuildsAll (type_copies n ts) (with_others xs zs) start end

    pub remains_all : (n : ℕ) (start : CellEvents) → Remains n start start 0 NoValue
    remains_all n start = record { remains = λ k zs end e h. let is : k ≡ n = omega (arith, e) in subst (λ m. BuildsAll (type_copies m ts) zs start end) is h }

    pub remains_more : (n : ℕ) (start now next : CellEvents) (i : ℕ) (xs x : Values) → Remains n start now i xs → BuildsAll ts x now next → Remains n start next (i + 1) (with_others xs x)
    remains_more n start now next i xs x r h = record {
      remains = λ k zs end e more.
          subst (λ (vs : Values). BuildsAll (type_copies n ts) vs start end) (sym (others_assoc xs x zs))
          (r.remains (suc k) (with_others x zs) end (omega (arith, e)) (both_built ts (type_copies k ts) h more));
    }

    pub remains_none : (n : ℕ) (start now : CellEvents) (i : ℕ) (xs : Values) → i ≤ n → n ≤ i → Remains n start now i xs → BuildsAll (type_copies n ts) xs start now
    remains_none n start now i xs l m r =
        subst (λ (vs : Values). BuildsAll (type_copies n ts) vs start now) (others_none xs) (r.remains 0 NoValue now (omega arith) (none_built now))

    -- a fault ends it
    pub remains_stuck : (n : ℕ) (start now : CellEvents) (i : ℕ) (xs ys : Values) (f : Fault) → i ≤ n → now.fault ≡ Some f → Remains n start now i xs → BuildsAll (type_copies n ts) ys start now
    remains_stuck n start now i xs ys f l e r = other_value ys f e (r.remains (n - i) NoValue now (omega arith) (stuck NoValue f e))

-- values and the end of the value around them
pub counted_built : (level : ℕ) (ts : Types) (n : ℕ) {vs : Values} {a b c : CellEvents} → BuildsAll (level + 1) (type_copies n ts) vs a b → Builds {A = Unit {0}} (λ _. Leave level n ∷ []) any tt b c
    → Builds (counted_said level ts n) (Fit (type_copies n ts)) vs a c
counted_built level ts n one two =
    as_builds (counted_said level ts n) (Fit (type_copies n ts)) (λ (p : Values × Unit {0}). p.0) (λ p q. refl) (λ p q. q.0) (λ vs f. ((vs, tt), (f, refl), refl)) (one then two)

-- a fault, of which the end of the value is not asked
pub counted_stuck : (level : ℕ) (ts : Types) (n : ℕ) (ys : Values) (f : Fault) {vs : Values} {a b : CellEvents} → b.fault ≡ Some f → BuildsAll (level + 1) (type_copies n ts) vs a b
    → Builds (counted_said level ts n) (Fit (type_copies n ts)) ys a b
counted_stuck level ts n ys f e one = other_value ys f e (counted_built level ts n one (stuck tt f e))
