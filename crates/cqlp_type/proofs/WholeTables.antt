-- Tables in which no type is under way: their types, how many they are, and how deep they are nested.
use Rattle.std.proofs.Common.{◌≡◌, ◌≢◌, ℕ, suc, ◌≤◌, ◌++◌, List, [], length, sym, ap, ◌∙◌, subst, arith}
use Rattle.std.specs.Prelude.{◌↔◌}
use Rattle.std.proofs.lemmas.List.{append-nil}
use Rattle.std.proofs.lemmas.List.Elements.{All-nil, All-cons, All-append}
use Rattle.cqlp_kind.specs.declared.node.Node.{Node}
use Rattle.cqlp_kind.specs.Types.{Types, NoMore, Type_and, how_many, types_of, preorder, AreFormed, IsPreorder}
use Rattle.cqlp_type.specs.Table.{AreWhole, beginnings}
use Rattle.cqlp_type.specs.Forests.{depth_of, Forest}
use Rattle.cqlp_type.specs.Depths.{IsDepth}
use Rattle.cqlp_type.specs.Laws.{first_nodes, AreTypesOf}
use Rattle.cqlp_type.proofs.Forests.{types_of_own_preorder}
use Rattle.cqlp_type.proofs.TableLaws.{roots_begin, roots_count}
use Rattle.cqlp_type.proofs.Depths.{depth_whole, depth_of_types}

-- ---- the nodes of types

-- none of them is under way
pub preorder_whole : (ts : Types) → AreWhole (preorder ts)
preorder_whole NoMore = All-nil (λ (x : Node). x.span ≢ 0)
preorder_whole (Type_and k inner others) =
    let x : Node = record { kind = k; arity = how_many inner; span = suc (length (preorder inner)) } in
    let xs = preorder inner ++ preorder others in
    All-cons (λ (y : Node). y.span ≢ 0) x xs (λ e. absurd (omega arith)) (All-append (λ (y : Node). y.span ≢ 0) (preorder inner) (preorder others) (preorder_whole inner) (preorder_whole others))

-- as many begin side by side as there are
pub preorder_roots : (ts : Types) → length (beginnings 0 0 (preorder ts)) ≡ how_many ts
preorder_roots ts =
    let begin = roots_begin ts 0 [] in
    let all : beginnings 0 0 (preorder ts) ≡ first_nodes 0 ts = ap (beginnings 0 0) (sym (append-nil (preorder ts))) ∙ begin ∙ append-nil (first_nodes 0 ts) in
    ap (length {A = ℕ}) all ∙ roots_count ts 0

-- ---- a table of whole types

module _ (nodes : List Node) where
  pub whole_is : IsPreorder nodes → AreWhole nodes
  whole_is p = subst (λ (m : List Node). AreWhole m) (sym p.are) (preorder_whole p.types)

  pub whole_types : (p : IsPreorder nodes) → types_of nodes ≡ p.types
  whole_types p = ap types_of p.are ∙ types_of_own_preorder p.types

  pub whole_nodes : IsPreorder nodes → preorder (types_of nodes) ≡ nodes
  whole_nodes p = ap preorder (whole_types p) ∙ sym p.are

  pub whole_formed : IsPreorder nodes → AreFormed (types_of nodes)
  whole_formed p = subst (λ (ts : Types). AreFormed ts) (sym (whole_types p)) p.formed

  pub whole_roots : IsPreorder nodes → length (beginnings 0 0 nodes) ≡ how_many (types_of nodes)
  whole_roots p = ap (λ (m : List Node). length (beginnings 0 0 m)) p.are ∙ preorder_roots p.types ∙ ap how_many (sym (whole_types p))

  pub whole_depth : (found : ℕ) → IsPreorder nodes → IsDepth nodes found → found ≡ depth_of (types_of nodes)
  whole_depth found p i = depth_of_types nodes found (types_of nodes) i (sym (whole_nodes p))

  -- ---- within a depth

  pub whole_forest : (depth : ℕ) → (p : IsPreorder nodes) → depth_of p.types ≤ depth → Forest nodes 0 depth
  whole_forest depth p le = record { types = p.types; are = p.are; formed = p.formed; shallow = le }

  pub forest_whole : (depth : ℕ) → Forest nodes 0 depth → (p : IsPreorder nodes) × (depth_of p.types ≤ depth)
  forest_whole depth f = (record { types = f.types; formed = f.formed; are = f.are }, f.shallow)

  -- by the depth that was found
  pub found_forest : (found depth : ℕ) → IsPreorder nodes → IsDepth nodes found → found ≤ depth → Forest nodes 0 depth
  found_forest found depth p i le = whole_forest depth p (omega (arith, depth_of_types nodes found p.types i p.are))

  pub forest_found : (found depth : ℕ) → Forest nodes 0 depth → IsDepth nodes found → IsPreorder nodes × (found ≤ depth)
  forest_found found depth f i = ((forest_whole depth f).0, omega (arith, depth_of_types nodes found f.types i f.are, f.shallow))

pub are_types : (nodes : List Node) → IsPreorder nodes → AreTypesOf nodes (types_of nodes)
are_types nodes p = record {
  whole = whole_is nodes p;
  are = whole_nodes nodes p;
  formed = whole_formed nodes p;
  many = whole_roots nodes p;
  depth = subst (λ (m : List Node). IsDepth m (depth_of (types_of nodes))) (whole_nodes nodes p) (depth_whole (types_of nodes));
}

pub within : (nodes : List Node) (found depth : ℕ) → IsDepth nodes found → (Forest nodes 0 depth ↔ (IsPreorder nodes × (found ≤ depth)))
within nodes found depth i = (λ f. forest_found nodes found depth f i, λ w. found_forest nodes found depth w.0 i w.1)
