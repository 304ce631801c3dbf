-- Types that are side by side in a table, and how deep they are nested.
use Rattle.std.specs.Prelude.{◌≡◌, ℕ, suc, ◌≤◌, ◌++◌, List, length, drop, max, slice_get, unwrap_or}
use Rattle.cqlp_kind.specs.declared.kind.Kind.TheVariants as kind
use Rattle.cqlp_kind.specs.declared.node.Node.{Node}
use Rattle.cqlp_kind.specs.Types.{Types, NoMore, Type_and, AreFormed, how_many, first_types, types_of, preorder}

-- n types that are side by side from node i on
unfoldable pub types_at : List Node → (i n : ℕ) → Types
types_at nodes i n = first_types n (types_of (drop i nodes))

-- the node with this number
unfoldable pub node_at : List Node → (i : ℕ) → Node
node_at nodes i = unwrap_or (slice_get nodes i) (record { kind = kind.Raw; arity = 0; span = 0 })

-- the nesting of the deepest of these types
abbrev pub depth_of : Types → ℕ
depth_of NoMore = 0
depth_of (Type_and k inner others) = max (suc (depth_of inner)) (depth_of others)

-- From node i on, all nodes are whole types side by side, none nested deeper than this.
pub record Forest (nodes : List Node) (i depth : ℕ) : Type 0 where
  pub types : Types
  pub are : drop i nodes ≡ preorder types
  pub formed : AreFormed types
  pub shallow : depth_of types ≤ depth

-- From node i on, n whole types are side by side, none nested deeper than this.
pub record Conform (nodes : List Node) (i n depth : ℕ) : Type 0 where
  pub others : List Node
  pub are : drop i nodes ≡ preorder (types_at nodes i n) ++ others
  pub many : how_many (types_at nodes i n) ≡ n
  pub formed : AreFormed (types_at nodes i n)
  pub shallow : depth_of (types_at nodes i n) ≤ depth

-- From node i on, before node e, n whole types are side by side, none nested deeper than this.
pub record IsAfter (nodes : List Node) (i e n depth : ℕ) : Type 0 where
  pub types : Types
  pub are : drop i nodes ≡ preorder types ++ drop e nodes
  pub many : how_many types ≡ n
  pub formed : AreFormed types
  pub shallow : depth_of types ≤ depth
  pub within : (i ≤ e) × (e ≤ length nodes)
