-- The kinds of a page's columns.
use Rattle.std.proofs.Common.{◌≡◌, ℕ, zero, suc, ◌+◌, ◌<◌, ◌≤◌, ◌++◌, List, [], ◌∷◌, length, drop, get_or, Option, Some, refl, sym, ap, ◌∙◌, subst, arith, append_assoc, append-nil}
use Rattle.std.specs.Prelude.{⊤}
use Rattle.std.proofs.Math.ListN.{drop_of_length-le}
use Rattle.std.proofs.Math.Seq.{drop-cons}
use Rattle.cqlp_kind.specs.declared.kind.Kind.{Kind}
use Rattle.cqlp_type.specs.declared.tree.TypeTree.{TypeTree}
use Rattle.cqlp_message.specs.declared.response.Spec.{Spec}
use Rattle.cqlp_compose.specs.Bare.{AreKindsAmong}
use Rattle.cqlp_compose.specs.Places.{type_at}
use Rattle.cqlp_compose.specs.Single.{IsNoScalarType, IsPlain, IsScalarType}
use Rattle.cqlp_compose.proofs.Columns.{type_some}

-- each column has the kind, without inner types, that comes with it
abbrev EachIs : List Spec → List Kind → Type 0
EachIs [] [] = ⊤
EachIs [] (k ∷ ks) = ⊥
EachIs (s ∷ ss) [] = ⊥
EachIs (s ∷ ss) (k ∷ ks) = IsPlain (Some s.tree) k × EachIs ss ks

kinds_among : (specs : List Spec) (kinds : List Kind) → EachIs specs kinds → AreKindsAmong specs kinds
kinds_among [] [] e column = (refl, refl)
kinds_among [] (k ∷ ks) e column = absurd e
kinds_among (s ∷ ss) [] e column = absurd e
kinds_among (s ∷ ss) (k ∷ ks) e zero = e.0
kinds_among (s ∷ ss) (k ∷ ks) e (suc i) = kinds_among ss ks e.1 i

-- The columns before the i-th have these kinds.
pub record KindsSoFar (specs : List Spec) (kinds : List Kind) (i : ℕ) : Type 0 where
  pub goes : (more : List Kind) → EachIs (drop i specs) more → EachIs specs (kinds ++ more)

pub no_kinds : (specs : List Spec) → KindsSoFar specs [] 0
no_kinds specs = record { goes = λ more e. e }

module _ (specs : List Spec) (kinds : List Kind) (i : ℕ) (s : KindsSoFar specs kinds i) where
  pub one_kind : (c : Spec) (k : Kind) → c ≡ get_or specs i c → i < length specs → IsScalarType (Some c.tree) k → KindsSoFar specs (kinds ++ k ∷ []) (i + 1)
  one_kind c k nth lt is =
      let here : drop i specs ≡ c ∷ drop (suc i) specs = drop-cons specs i c lt ∙ ap (λ (x : Spec). x ∷ drop (suc i) specs) (sym nth) in
      let on : i + 1 ≡ suc i = omega arith in
      record {
        goes = λ more e.
            let others : EachIs (drop (suc i) specs) more = subst (λ (m : ℕ). EachIs (drop m specs) more) on e in
            let all : EachIs (drop i specs) (k ∷ more) = subst (λ (xs : List Spec). EachIs xs (k ∷ more)) (sym here) (is.0, others) in
            subst (λ (ks : List Kind). EachIs specs ks) (sym (append_assoc kinds (k ∷ []) more)) (s.goes (k ∷ more) all);
      }

  pub all_kinds : length specs ≤ i → AreKindsAmong specs kinds
  all_kinds le =
      let end : drop i specs ≡ [] = drop_of_length-le specs le in
      let all : EachIs specs (kinds ++ []) = s.goes [] (subst (λ (xs : List Spec). EachIs xs []) (sym end) tt) in
      kinds_among specs kinds (subst (λ (ks : List Kind). EachIs specs ks) (append-nil kinds) all)

-- a column with inner types
pub nested : (specs : List Spec) (i : ℕ) (c : Spec) → c ≡ get_or specs i c → i < length specs → IsNoScalarType (Some c.tree) → IsNoScalarType (type_at specs i)
nested specs i c nth lt none = subst (λ (t : Option TypeTree). IsNoScalarType t) (sym (type_some specs i c nth lt)) none
