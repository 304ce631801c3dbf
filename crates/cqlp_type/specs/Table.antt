-- Tables of types: nodes in preorder, of which the last type may be under way.
use Rattle.std.specs.Prelude.{◌≢◌, ◌≤◌, ℕ, zero, suc, ◌+◌, ◌-◌, List, [], ◌∷◌, All, length, take, drop, Option, option_and_then}
use Rattle.std.specs.Prelude.{slice_get, ◌==◌, if◌then◌else◌}
use Rattle.cqlp_kind.specs.declared.node.Node.{Node}
use Rattle.cqlp_kind.specs.Types.{IsPreorder}

-- What a caller knows of a `TypeTable`: its nodes, and how many there can be.
pub record Table : Type 0 where
  pub nodes : List Node
  pub room : ℕ

-- no type is under way
abbrev pub AreWhole : List Node → Type 0
AreWhole nodes = All (λ x. x.span ≢ 0) nodes

-- A table in which no type is under way is whole types side by side.
abbrev pub HoldsTypes : List Node → Type 0
HoldsTypes nodes = AreWhole nodes → IsPreorder nodes

-- There are no more nodes than there is room for, and they hold types.
abbrev pub HoldsUpTo : (room : ℕ) → List Node → Type 0
HoldsUpTo room nodes = (length nodes ≤ room) × HoldsTypes nodes

-- The numbers of the nodes at which types begin that are side by side, from a node with this number on, after some
-- that are skipped. The span of a type that is under way is 0: all further nodes are its own.
abbrev pub beginnings : (number skipped : ℕ) → List Node → List ℕ
beginnings number skipped [] = []
beginnings number zero (x ∷ xs) = number ∷ (if x.span == 0 then [] else beginnings (suc number) (x.span - 1) xs)
beginnings number (suc skipped) (x ∷ xs) = beginnings (suc number) skipped xs

-- where type i of those that are side by side begins
abbrev pub root : List Node → (i : ℕ) → Option ℕ
root xs i = slice_get (beginnings 0 0 xs) i

-- the nodes after a node that belong to its type
abbrev pub inner_nodes : Node → List Node → List Node
inner_nodes x xs = if x.span == 0 then xs else take (x.span - 1) xs

-- where inner type i of the type of a node begins
abbrev pub child : List Node → (node i : ℕ) → Option ℕ
child xs node i =
    option_and_then (λ x. slice_get (beginnings (node + 1) 0 (inner_nodes x (drop (node + 1) xs))) i)
    (slice_get xs node)
