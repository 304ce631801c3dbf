-- Types in preorder, as trees and as nodes.
use Rattle.std.proofs.Common.{◌≡◌, ℕ, suc, ◌+◌, List, [], ◌∷◌, ◌++◌, length, refl, sym, ap, ◌∙◌, append_assoc, arith}
use Rattle.std.proofs.lemmas.List.{append-nil, length-append}
use Rattle.cqlp_kind.specs.declared.kind.Kind.{Kind}
use Rattle.cqlp_kind.specs.declared.node.Node.{Node}
use Rattle.cqlp_kind.specs.Types.{Types, NoMore, Type_and, how_many, first_types, other_types, types_of, preorder, followed_by}
use Rattle.cqlp_kind.specs.TypeStep.{with_arity, with_span}
use Rattle.cqlp_type.specs.Trees.{Trees, NoTree, Tree_and, types_in, trees_in, options_in}

first_followed : (ts us : Types) → first_types (how_many ts) (followed_by ts us) ≡ ts
first_followed NoMore us = refl
first_followed (Type_and k inner others) us = ap (Type_and k inner) (first_followed others us)

other_followed : (ts us : Types) → other_types (how_many ts) (followed_by ts us) ≡ us
other_followed NoMore us = refl
other_followed (Type_and k inner others) us = other_followed others us

-- the types of nodes in preorder are those that the nodes were made of
pub types_of_preorder : (ts : Types) (ns : List Node) → types_of (preorder ts ++ ns) ≡ followed_by ts (types_of ns)
types_of_preorder NoMore ns = refl
types_of_preorder (Type_and k inner others) ns =
    rw (append_assoc (preorder inner) (preorder others) ns, types_of_preorder inner (preorder others ++ ns), types_of_preorder others ns, first_followed inner (followed_by others (types_of ns)), other_followed inner (followed_by others (types_of ns)))

pub followed_by_none : (ts : Types) → followed_by ts NoMore ≡ ts
followed_by_none NoMore = refl
followed_by_none (Type_and k inner others) = ap (Type_and k inner) (followed_by_none others)

pub last_arity : (n : ℕ) (ns : List Node) (x : Node) → with_arity n (ns ++ x ∷ []) ≡ ns ++ record x { arity = n } ∷ []
last_arity n [] x = refl
last_arity n (y ∷ []) x = refl
last_arity n (y ∷ z ∷ ns) x = ap (λ (m : List Node). y ∷ m) (last_arity n (z ∷ ns) x)

pub span_at : (ns : List Node) (x : Node) (more : List Node) → with_span (length ns) (ns ++ x ∷ more) ≡ ns ++ record x { span = suc (length more) } ∷ more
span_at [] x xs = refl
span_at (y ∷ ns) x xs = ap (λ (m : List Node). y ∷ m) (span_at ns x xs)

-- a type, and more after it
pub and_more : (k : Kind) (inner others : Types) (ns : List Node) → (ns ++ preorder (Type_and k inner NoMore)) ++ preorder others ≡ ns ++ preorder (Type_and k inner others)
and_more k inner others ns = simp (append_assoc, append-nil)

pub many_types : (ts : Trees) → how_many (types_in ts) ≡ trees_in ts
many_types NoTree = refl
many_types (Tree_and name h inner others) = ap suc (many_types others)

pub many_nodes : (ts : Trees) → length (preorder (types_in ts)) ≡ options_in ts
many_nodes NoTree = refl
many_nodes (Tree_and name h inner others) = ap suc (length-append (preorder (types_in inner)) (preorder (types_in others)) ∙ rw (many_nodes inner, many_nodes others))

pub one_size : (k : Kind) (ts : Trees) (ns : List Node) → length (ns ++ preorder (Type_and k (types_in ts) NoMore)) ≡ length ns + suc (options_in ts)
one_size k ts ns =
    let inner : length (preorder (types_in ts) ++ []) ≡ options_in ts = ap (length {A = Node}) (append-nil (preorder (types_in ts))) ∙ many_nodes ts in
    omega (arith, length-append ns (preorder (Type_and k (types_in ts) NoMore)), inner)

pub types_of_own_preorder : (ts : Types) → types_of (preorder ts) ≡ ts
types_of_own_preorder ts = ap types_of (sym (append-nil (preorder ts))) ∙ types_of_preorder ts [] ∙ followed_by_none ts
