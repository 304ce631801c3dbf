-- A node of a table that is written.
use Rattle.std.proofs.Common.{◌≡◌, ℕ, zero, suc, ◌-◌, ◌<◌, ◌≤◌, List, [], ◌∷◌, length, get_or, refl, ap, arith}
use Rattle.std.proofs.Math.ListN.{set}
use Rattle.cqlp_kind.specs.declared.node.Node.{Node}
use Rattle.cqlp_kind.specs.TypeStep.{with_arity, with_span}

pub span_set : (xs : List Node) (i : ℕ) (x : Node) → x ≡ get_or xs i x → i < length xs → set xs i (record x { span = length xs - i }) ≡ with_span i xs
span_set [] i x here lt = absurd (omega arith)
span_set (y ∷ xs) zero x here lt = let e : suc (length xs) - 0 ≡ suc (length xs) = omega arith in rw (here, e) refl
span_set (y ∷ xs) (suc i) x here lt = let e : suc (length xs) - suc i ≡ length xs - i = omega arith in rw e (ap (λ (m : List Node). y ∷ m) (span_set xs i x here (omega arith)))

pub span_past : (xs : List Node) (i : ℕ) → length xs ≤ i → with_span i xs ≡ xs
span_past [] i le = refl
span_past (x ∷ xs) zero le = absurd (omega arith)
span_past (x ∷ xs) (suc i) le = ap (λ (m : List Node). x ∷ m) (span_past xs i (omega arith))

pub arity_set : (xs : List Node) (n : ℕ) (x : Node) → x ≡ get_or xs (length xs - 1) x → 0 < length xs → set xs (length xs - 1) (record x { arity = n }) ≡ with_arity n xs
arity_set [] n x here lt = absurd (omega arith)
arity_set (y ∷ []) n x here lt = rw here refl
arity_set (y ∷ z ∷ xs) n x here lt =
    let e : suc (suc (length xs)) - 1 ≡ suc (suc (length xs) - 1) = omega arith in
    rw e (ap (λ (m : List Node). y ∷ m) (arity_set (z ∷ xs) n x (rw e at here) (omega arith)))

pub length_with_span : (i : ℕ) (xs : List Node) → length (with_span i xs) ≡ length xs
length_with_span i [] = refl
length_with_span zero (x ∷ xs) = refl
length_with_span (suc i) (x ∷ xs) = ap suc (length_with_span i xs)

pub length_with_arity : (n : ℕ) (xs : List Node) → length (with_arity n xs) ≡ length xs
length_with_arity n [] = refl
length_with_arity n (x ∷ []) = refl
length_with_arity n (x ∷ y ∷ xs) = ap suc (length_with_arity n (y ∷ xs))
