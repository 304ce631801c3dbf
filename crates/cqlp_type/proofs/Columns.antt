-- The types of columns, side by side in a table.
use Rattle.std.proofs.Common.{◌≡◌, ℕ, suc, ◌+◌, ◌-◌, ◌<◌, ◌≤◌, true, List, [], ◌++◌, length, drop, refl, sym, ap, ◌∙◌, arith}
use Rattle.std.specs.Prelude.{Some, slice_get}
use Rattle.std.proofs.lemmas.List.{append-nil, drop-drop, length-append, length-drop, drop_at, drop_all}
use Rattle.cqlp_note.specs.Limits.{Rules}
use Rattle.cqlp_kind.specs.declared.kind.Kind.{Kind}
use Rattle.cqlp_kind.specs.declared.node.Node.{Node}
use Rattle.cqlp_kind.specs.Types.{Types, NoMore, Type_and, how_many, types_of, preorder, followed_by, AreFormed}
use Rattle.cqlp_kind.specs.TypeStep.{TypeEvent}
use Rattle.cqlp_type.specs.Trees.{Trees, NoTree, Tree_and, types_in, Shallow}
use Rattle.cqlp_type.specs.Pushing.{IsWhole}
use Rattle.cqlp_type.proofs.Forests.{types_of_own_preorder}
use Rattle.cqlp_type.specs.Forests.{types_at, depth_of, Forest, Conform}
use Rattle.cqlp_type.proofs.Inside.{first_read, conform_there, preorder-followed, formed-followed, depth-followed}

-- ---- the types of trees

-- types that begin at this depth are nested no deeper than there is room below
pub are_shallow : (l : Rules) (depth room : ℕ) (t : Trees) → Shallow l depth t → l.depth + 1 ≤ depth + room → depth_of (types_in t) ≤ room
are_shallow l depth room NoTree s le = omega arith
are_shallow l depth room (Tree_and name h inner others) s le =
    let below = are_shallow l (depth + 1) (room - 1) inner s.1 (omega (arith, le, s.0)) in
    let beside = are_shallow l depth room others s.2 le in
    omega (arith, le, s.0, below, beside)

-- ---- all types of a table

pub forest_none : (depth : ℕ) → Forest [] 0 depth
forest_none depth = record { types = NoMore; are = refl; formed = tt; shallow = omega arith }

-- one more type, which was read
pub forest_more : (l : Rules) (at : ℕ) (before : List Node) (s : List ℕ) (es : List (ℕ × TypeEvent)) (nodes : List Node) → Forest before 0 l.depth → IsWhole l 1 at before s es nodes → Forest nodes 0 l.depth
forest_more l at before s es nodes f w =
    let one = types_in w.tree in
    record {
      types = followed_by f.types one;
      are = w.table ∙ ap (λ (m : List Node). m ++ preorder one) f.are ∙ sym (preorder-followed f.types one);
      formed = formed-followed f.types one f.formed w.formed;
      shallow = depth-followed f.types one l.depth f.shallow (are_shallow l 1 l.depth w.tree w.shallow (omega arith));
    }

-- The type of a column: its first node, its inner types, and those of the columns after it.
pub record Column (nodes : List Node) (i depth : ℕ) : Type 0 where
  pub x : Node
  pub inner : Types
  pub others : Types
  pub get : slice_get nodes i ≡ Some x
  pub is : types_of (drop i nodes) ≡ Type_and x.kind inner others
  pub one : types_at nodes i 1 ≡ Type_and x.kind inner NoMore
  pub conforms : Conform nodes i 1 depth
  pub next : types_of (drop (i + x.span) nodes) ≡ others
  pub left : Forest nodes (i + x.span) depth
  pub within : i + x.span ≤ length nodes
  pub some : 0 < x.span

module _ (nodes : List Node) (i depth : ℕ) where
  first_column : (k : Kind) (inner others : Types) → drop i nodes ≡ preorder (Type_and k inner others) → AreFormed (Type_and k inner others) → depth_of (Type_and k inner others) ≤ depth → Column nodes i depth
  unfolding types_at
  first_column k inner others are formed shallow =
      let x : Node = record { kind = k; arity = how_many inner; span = suc (length (preorder inner)) } in
      let r = first_read nodes i x (preorder inner ++ preorder others) are in
      let past : drop (i + x.span) nodes ≡ preorder others =
      let e : i + x.span ≡ suc i + length (preorder inner) = omega arith in
      rw (e, ← (drop-drop (length (preorder inner)) (suc i) nodes), r.1) (drop_at (preorder inner) (preorder others) _ refl) in
      let is : types_of (drop i nodes) ≡ Type_and k inner others = ap types_of are ∙ types_of_own_preorder (Type_and k inner others) in
      let first : drop i nodes ≡ preorder (Type_and k inner NoMore) ++ preorder others = rw (append-nil (preorder inner)) are in
      record {
        x = x;
        inner = inner;
        others = others;
        get = r.0;
        is = is;
        one = rw is refl;
        conforms = conform_there nodes i (Type_and k inner NoMore) (preorder others) first 1 depth refl (formed.0, formed.1, tt) (omega (arith, shallow));
        next = ap types_of past ∙ types_of_own_preorder others;
        left = record { types = others; are = past; formed = formed.2; shallow = omega (arith, shallow) };
        within = omega (arith, r.2, length-append (preorder inner) (preorder others));
        some = omega arith;
      }

  first_of : (ts : Types) → drop i nodes ≡ preorder ts → AreFormed ts → depth_of ts ≤ depth → i < length nodes → Column nodes i depth
  first_of NoMore are formed shallow lt =
      let none : length (drop i nodes) ≡ 0 = ap (length {A = Node}) are in
      absurd (omega (arith, length-drop i nodes, none, lt))
  first_of (Type_and k inner others) are formed shallow lt = first_column k inner others are formed shallow

  -- where nodes are left, the type of a column is
  pub forest_first : Forest nodes i depth → i < length nodes → Column nodes i depth
  forest_first f lt = first_of f.types f.are f.formed f.shallow lt

pub forest_end : (nodes : List Node) → types_of (drop (length nodes) nodes) ≡ NoMore
forest_end nodes = rw (drop_all (length nodes) nodes (omega arith)) refl
