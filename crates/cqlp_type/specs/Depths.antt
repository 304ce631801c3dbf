-- How deep the types of a table are nested.
use Rattle.std.specs.Prelude.{ℕ, suc, ◌<◌, ◌≤◌, List, ◌∷◌, length, drop}
use Rattle.cqlp_kind.specs.declared.node.Node.{Node}
use Rattle.cqlp_type.specs.Table.{inner_nodes}

-- The nodes after a type, of those that are after its own node. There are none where it is under way.
abbrev pub later_nodes : Node → List Node → List Node
later_nodes x xs = drop (length (inner_nodes x xs)) xs

-- A type is at this depth in these nodes. The first type is at 1; an inner type of it, one deeper than in its
-- inner nodes alone; and a type after it, as deep as in the nodes after it alone.
pub data ConformsAt : (depth : ℕ) → List Node → Type 0 where
  First : (x : Node) (xs : List Node) → ConformsAt 1 (x ∷ xs)
  Inside : (x : Node) (xs : List Node) (depth : ℕ) → ConformsAt depth (inner_nodes x xs) → ConformsAt (suc depth) (x ∷ xs)
  Later : (x : Node) (xs : List Node) (depth : ℕ) → ConformsAt depth (later_nodes x xs) → ConformsAt depth (x ∷ xs)

-- This is the greatest depth at which a type is in these nodes; 0 where none does.
pub record IsDepth (nodes : List Node) (depth : ℕ) : Type 0 where
  pub conforms : 0 < depth → ConformsAt depth nodes
  pub greatest : (d : ℕ) → ConformsAt d nodes → d ≤ depth
