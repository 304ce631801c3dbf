-- Each kind has one id.
use Rattle.std.proofs.Common.{◌≡◌, ℕ, true, false, eqb, List, [], ◌∷◌, Some, refl, sym, ap, ◌∙◌}
use Rattle.std.proofs.lemmas.Bool.{eqb-true}
use Rattle.cqlp_note.specs.Heading.{beside_number}
use Rattle.cqlp_kind.specs.declared.kind.Kind.{Kind}
use Rattle.cqlp_kind.specs.Types.{kinds, id_of}

abbrev AllIn : List (ℕ × Kind) → Type 0
AllIn [] = Unit {0}
AllIn (x ∷ xs) = (x.0 ≡ id_of x.1) × AllIn xs

all_in : AllIn kinds
all_in = search

beside_in : (n : ℕ) (table : List (ℕ × Kind)) (k : Kind) → AllIn table → beside_number n table ≡ Some k → n ≡ id_of k
beside_in n [] k all e = absurd cc
beside_in n (x ∷ xs) k all e = elim (eqb n x.0) as (λ t. eqb n x.0 ≡ t → n ≡ id_of k) [
  | true ↦ λ is. let f : Some x.1 ≡ Some k = rw is at e in let same : x.1 ≡ k = cc in eqb-true n x.0 is ∙ all.0 ∙ ap id_of same
  | false ↦ λ is. let f : beside_number n xs ≡ Some k = rw is at e in beside_in n xs k all.1 f
] refl

pub one_id : (k : Kind) (a b : ℕ) → beside_number a kinds ≡ Some k → beside_number b kinds ≡ Some k → a ≡ b
one_id k a b e f = beside_in a kinds k all_in e ∙ sym (beside_in b kinds k all_in f)
