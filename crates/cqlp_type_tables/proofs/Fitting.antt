-- What is in no type's way is in the way of none of those side by side, and all of them fit where they fit together.
use Rattle.std.proofs.Common.{◌≡◌, ℕ, zero, suc, ◌+◌, ◌<◌, ◌≤◌, ◌^◌, get_or, Bool, true, false, ◌&&◌, List, [], ◌∷◌, ◌++◌, length, take, min, refl, sym, ap, ◌∙◌, append_assoc, arith}
use Rattle.std.specs.Prelude.{◌==◌}
use Rattle.std.specs.List.{list_all}
use Rattle.std.proofs.lemmas.Bool.{ltb-true}
use Rattle.std.proofs.lemmas.List.{append-nil, length-append, take_more}
use Rattle.std.proofs.lemmas.List.Folds.{list_all-append}
use Rattle.cqlp_note.specs.Field.{FieldValue, Count, content_length}
use Rattle.cqlp_note.specs.Limits.{Rules}
use Rattle.cqlp_note.specs.Spelling.{is_short_enough}
use Rattle.cqlp_kind.specs.declared.node.Node.{Node}
use Rattle.cqlp_kind.specs.Types.{preorder, how_many}
use Rattle.cqlp_kind.specs.TypeStep.{TypeEvent, IsNode, IsField}
use Rattle.cqlp_type.specs.declared.tree.TypeTree.{TypeTree}
use Rattle.cqlp_type.specs.declared.check.TreeCheck.{TreeCheck}
use Rattle.cqlp_type.specs.Trees.{Trees, NoTree, Tree_and, kind_in, trees_in, options_in, types_in, has_names, is_tree, is_head, are_trees, Shallow, AreShort, head_items, trees_items, notation_for, item_counts, item_is_short, ItemsSpell, tree_bytes}
use Rattle.cqlp_type.specs.TypeTrees.{head_of, inner_of, tree_of, trees_size}
use Rattle.cqlp_type.specs.TypeLists.{listed_types}
use Rattle.cqlp_type.proofs.Forests.{many_nodes}
use Rattle.cqlp_type.proofs.ReadBack.{item_sized}
use Rattle.cqlp_type.proofs.WrittenTrees.{both, and_of, tree_written}
use Rattle.cqlp_type_tables.specs.Making.{AreWritable}
use Rattle.cqlp_type_tables.specs.Reading.{IsReadAs}
use Rattle.cqlp_message.proofs.Ranges.{tree_range}

-- ---- one of some types

-- the three tests apart
pub record Fit (named : Bool) (ts : Trees) : Type 0 where
  pub formed : are_trees ts ≡ true
  pub counts : list_all item_counts (trees_items named ts) ≡ true
  pub texts : list_all item_is_short (trees_items named ts) ≡ true

pub fits : (ts : Trees) → AreWritable ts → Fit false ts
fits ts w = record {
  formed = ap (λ (c : TreeCheck). c.formed) w;
  counts = ap (λ (c : TreeCheck). c.counts) w;
  texts = ap (λ (c : TreeCheck). c.texts) w;
}

first_and : (p q r : Bool) → (p && q && r) ≡ true → ((p && q && true) ≡ true) × (r ≡ true)
first_and true true r e = (refl, e)
first_and true false r e = absurd cc
first_and false q r e = absurd cc

first_all : (p : TypeEvent → Bool) (e : TypeEvent) (hs is os : List TypeEvent) → list_all p (e ∷ (hs ++ (is ++ os))) ≡ true → (list_all p (e ∷ (hs ++ (is ++ []))) ≡ true) × (list_all p os ≡ true)
first_all p e hs is os a =
    let apart : hs ++ (is ++ os) ≡ (hs ++ (is ++ [])) ++ os = rw append-nil (sym (append_assoc hs is os)) in
    let same = ap (λ (x : List TypeEvent). list_all p (e ∷ x)) apart in
    both (list_all p (e ∷ (hs ++ (is ++ [])))) (list_all p os) (sym (list_all-append p (e ∷ (hs ++ (is ++ []))) os) ∙ sym same ∙ a)

first_fits : (t : TypeTree) (ts : List TypeTree) → Fit false (listed_types (t ∷ ts)) → Fit false (tree_of t) × Fit false (listed_types ts)
first_fits t ts f =
    let h = head_of t in
    let inner = inner_of t in
    let hs = head_items h (trees_in inner) in
    let is = trees_items (has_names h) inner in
    let os = trees_items false (listed_types ts) in
    let formed = first_and (is_head h (trees_in inner)) (are_trees inner) (are_trees (listed_types ts)) f.formed in
    let counts = first_all item_counts (IsNode (kind_in h)) hs is os f.counts in
    let texts = first_all item_is_short (IsNode (kind_in h)) hs is os f.texts in
    (record { formed = formed.0; counts = counts.0; texts = texts.0 }, record { formed = formed.1; counts = counts.1; texts = texts.1 })

-- a type that is one of them, and after how many nodes it is
pub record OneOf (ts : List TypeTree) (i : ℕ) (t : TypeTree) : Type 0 where
  pub fits : Fit false (tree_of t)
  pub size : trees_size false (tree_of t) ≤ trees_size false (listed_types ts)
  pub nodes : options_in (listed_types (take i ts)) + options_in (tree_of t) ≤ options_in (listed_types ts)

pub one_of : (ts : List TypeTree) (i : ℕ) (t : TypeTree) → t ≡ get_or ts i t → i < length ts → Fit false (listed_types ts) → OneOf ts i t
one_of [] i t here lt f = absurd (omega (arith, lt))
one_of (x ∷ ts) zero t here lt f =
    let same : t ≡ x = here in
    rw same (record { fits = (first_fits x ts f).0; size = omega arith; nodes = omega arith })
one_of (x ∷ ts) (suc i) t here lt f =
    let later = one_of ts i t here (omega (arith, lt)) (first_fits x ts f).1 in
    record { fits = later.fits; size = omega (arith, later.size); nodes = omega (arith, later.nodes) }

-- ---- within the limits that are made for it

pub nodes_few : (named : Bool) (t : Trees) → options_in t ≤ trees_size named t
nodes_few named NoTree = omega arith
nodes_few named (Tree_and name h inner others) = omega (arith, nodes_few (has_names h) inner, nodes_few named others)

pub are_shallow : (l : Rules) (depth : ℕ) (t : Trees) → depth + options_in t ≤ l.depth + 1 → Shallow l depth t
are_shallow l depth NoTree le = tt
are_shallow l depth (Tree_and name h inner others) le = (omega arith, are_shallow l (depth + 1) inner (omega arith), are_shallow l depth others (omega arith))

short_enough : (v : FieldValue) → is_short_enough (notation_for v) v ≡ true → content_length v ≤ 65535
short_enough (Count n) e = omega arith
short_enough v e = omega (arith, ltb-true (content_length v) (2 ^ 16) e)

are_short : (l : Rules) (size : ℕ) (es : List TypeEvent) (b : List ℕ) → l.text ≡ min size 65535 → ItemsSpell es b → length b ≤ size → list_all item_is_short es ≡ true → AreShort l es
are_short l size [] b text s le e = tt
are_short l size (IsNode k ∷ es) b text s le e =
    let long : length b ≡ length s.front + length s.back = ap length s.whole ∙ length-append s.front s.back in
    are_short l size es s.back text s.that (omega arith) e
are_short l size (IsField f v ∷ es) b text s le e =
    let long : length b ≡ length s.front + length s.back = ap length s.whole ∙ length-append s.front s.back in
    let this : length s.front ≡ 2 + content_length v = item_sized (IsField f v) s.front s.this in
    let ok = both (is_short_enough (notation_for v) v) (list_all item_is_short es) e in
    let few = short_enough v ok.0 in
    (omega arith, are_short l size es s.back text s.that (omega arith) ok.1)

pub read_as : (l : Rules) (nodes : List Node) (size : ℕ) (t : TypeTree) → Fit false (tree_of t) → trees_size false (tree_of t) ≤ size → l.text ≡ min size 65535 → options_in (tree_of t) ≤ l.depth → length nodes + options_in (tree_of t) ≤ l.entries
    → IsReadAs l nodes (tree_of t)
read_as l nodes size t f le text deep room =
    let is : is_tree (tree_of t) ≡ true = and_of (trees_in (tree_of t) == 1) (are_trees (tree_of t)) refl f.formed in
    let w = tree_written (tree_of t) is (record { texts = tree_range t; counts = f.counts; short = f.texts }) in
    record {
      one = w.0;
      are = w.1;
      shallow = are_shallow l 1 (tree_of t) (omega arith);
      short = are_short l size (trees_items false (tree_of t)) (tree_bytes (tree_of t)) text w.2 (omega (arith, w.3)) f.texts;
      room = room;
      spelled = w.2;
    }

-- ---- nodes of some types and one more

pub nodes_more : (ts : List TypeTree) (t : TypeTree) → preorder (types_in (listed_types (ts ++ t ∷ []))) ≡ preorder (types_in (listed_types ts)) ++ preorder (types_in (tree_of t))
nodes_more [] t = refl
nodes_more (x ∷ ts) t =
    let inner = preorder (types_in (inner_of x)) in
    let node : Node = record { kind = kind_in (head_of x); arity = how_many (types_in (inner_of x)); span = suc (length inner) } in
    ap (λ (ns : List Node). node ∷ (inner ++ ns)) (nodes_more ts t)
    ∙ ap (λ (ns : List Node). node ∷ ns) (sym (append_assoc inner (preorder (types_in (listed_types ts))) (preorder (types_in (tree_of t)))))

pub nodes_next : (ts : List TypeTree) (i : ℕ) (t : TypeTree) → t ≡ get_or ts i t → i < length ts → preorder (types_in (listed_types (take (i + 1) ts))) ≡ preorder (types_in (listed_types (take i ts))) ++ preorder (types_in (tree_of t))
nodes_next ts i t here lt =
    let more : take (i + 1) ts ≡ take i ts ++ t ∷ [] = take_more ts i t lt ∙ ap (λ (x : TypeTree). take i ts ++ x ∷ []) (sym here) in
    rw more (nodes_more (take i ts) t)

pub nodes_long : (ts : List TypeTree) → length (preorder (types_in (listed_types ts))) ≡ options_in (listed_types ts)
nodes_long ts = many_nodes (listed_types ts)
