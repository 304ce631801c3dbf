-- A type that fits is spelled by the bytes that are written of it, and a type that bytes spell fits.
use Rattle.std.proofs.Common.{◌≡◌, ℕ, ◌<◌, ◌^◌, ◌&&◌, Bool, true, false, List, [], ◌∷◌, ◌++◌, length, Some, refl, lit<}
use Rattle.std.specs.Prelude.{◌==◌}
use Rattle.std.specs.List.{All, list_all, flat_map}
use Rattle.std.proofs.lemmas.Bool.{eqb-true, eq-eqb}
use Rattle.std.proofs.lemmas.List.Elements.{All-nil, All-cons, All-head, All-tail}
use Rattle.cqlp_note.specs.declared.field.Notation.TheVariants as notation
use Rattle.cqlp_note.specs.Field.{Short}
use Rattle.cqlp_note.specs.Heading.{beside_number}
use Rattle.cqlp_note.proofs.Small.{Small, small_front, small_back}
use Rattle.cqlp_note.proofs.WrittenFields.{field_written, field_fits}
use Rattle.cqlp_kind.specs.declared.kind.Kind.{Kind}
use Rattle.cqlp_kind.specs.declared.kind.Kind.TheVariants as kind
use Rattle.cqlp_kind.specs.Types.{kinds, has_id, id_of}
use Rattle.cqlp_kind.specs.TypeStep.{TypeEvent, IsNode, IsField}
use Rattle.cqlp_type.specs.Trees.{Head, Plain, Custom, ListOf, SetOf, MapOf, TupleOf, UdtOf, Trees, NoTree, Tree_and, kind_in, trees_in, has_names, IsHead, AreTrees, is_head, are_trees, is_tree, head_items, name_items, trees_items, notation_for, ItemSpells, ItemsSpell, TreeSpells, item_counts, item_is_short, ItemIsInRange, item_bytes, tree_bytes}
use Rattle.cqlp_kind.specs.Types.{is_plain}
use Rattle.cqlp_type.specs.TypeTrees.{trees_size}
use Rattle.cqlp_type.specs.Laws.{TreeFits}
use Rattle.cqlp_type.proofs.Lengths.{spelled_long}

pub both : (p q : Bool) → (p && q) ≡ true → (p ≡ true) × (q ≡ true)
both true q e = (refl, e)
both false q e = absurd cc

pub and_of : (p q : Bool) → p ≡ true → q ≡ true → (p && q) ≡ true
and_of p q e f = rw (e, f) refl

-- ---- shape

head_is : (h : Head) (n : ℕ) → is_head h n ≡ true → IsHead h n
head_is (Plain k) n t = let b = both (is_plain k) (n == 0) t in (b.0, eqb-true n 0 b.1)
head_is (Custom class) n t = eqb-true n 0 t
head_is ListOf n t = eqb-true n 1 t
head_is SetOf n t = eqb-true n 1 t
head_is MapOf n t = eqb-true n 2 t
head_is TupleOf n t = tt
head_is (UdtOf keyspace name) n t = tt

is_the_head : (h : Head) (n : ℕ) → IsHead h n → is_head h n ≡ true
is_the_head (Plain k) n is = and_of (is_plain k) (n == 0) is.0 (eq-eqb n 0 is.1)
is_the_head (Custom class) n is = eq-eqb n 0 is
is_the_head ListOf n is = eq-eqb n 1 is
is_the_head SetOf n is = eq-eqb n 1 is
is_the_head MapOf n is = eq-eqb n 2 is
is_the_head TupleOf n is = refl
is_the_head (UdtOf keyspace name) n is = refl

pub trees_are : (t : Trees) → are_trees t ≡ true → AreTrees t
trees_are NoTree e = tt
trees_are (Tree_and name h inner others) e =
    let a = both (is_head h (trees_in inner) && are_trees inner) (are_trees others) e in
    let b = both (is_head h (trees_in inner)) (are_trees inner) a.0 in
    (head_is h (trees_in inner) b.0, trees_are inner b.1, trees_are others a.1)

pub are_the_trees : (t : Trees) → AreTrees t → are_trees t ≡ true
are_the_trees NoTree e = refl
are_the_trees (Tree_and name h inner others) e =
    and_of (is_head h (trees_in inner) && are_trees inner) (are_trees others)
    (and_of (is_head h (trees_in inner)) (are_trees inner) (is_the_head h (trees_in inner) e.0) (are_the_trees inner e.1)) (are_the_trees others e.2)

-- ---- ids

pub plain_id : (k : Kind) → is_plain k ≡ true → has_id k ≡ true
plain_id kind.Raw h = absurd cc
plain_id k h = refl

id_conforms : (k : Kind) → has_id k ≡ true → beside_number (id_of k) kinds ≡ Some k
id_conforms kind.Raw h = absurd cc
id_conforms k h = refl

id_small : (k : Kind) → has_id k ≡ true → id_of k < 2 ^ 16
id_small kind.Raw h = absurd cc
id_small k h = lit< tt

abbrev HasId : TypeEvent → Type 0
HasId (IsNode k) = has_id k ≡ true
HasId (IsField f v) = Unit {0}

abbrev HaveIds : List TypeEvent → Type 0
HaveIds [] = Unit {0}
HaveIds (e ∷ es) = HasId e × HaveIds es

ids_append : (es fs : List TypeEvent) → HaveIds es → HaveIds fs → HaveIds (es ++ fs)
ids_append [] fs a b = b
ids_append (e ∷ es) fs a b = (a.0, ids_append es fs a.1 b)

name_ids : (named : Bool) (name : List ℕ) → HaveIds (name_items named name)
name_ids true name = (tt, tt)
name_ids false name = tt

head_ids : (h : Head) (n : ℕ) → HaveIds (head_items h n)
head_ids (Custom class) n = (tt, tt)
head_ids TupleOf n = (tt, tt)
head_ids (UdtOf keyspace name) n = (tt, (tt, (tt, tt)))
head_ids h n = tt

kind_id : (h : Head) (n : ℕ) → IsHead h n → has_id (kind_in h) ≡ true
kind_id (Plain k) n is = plain_id k is.0
kind_id h n is = refl

trees_ids : (named : Bool) (ts : Trees) → AreTrees ts → HaveIds (trees_items named ts)
trees_ids named NoTree are = tt
trees_ids named (Tree_and name h inner others) are =
    ids_append (name_items named name) (IsNode (kind_in h) ∷ (head_items h (trees_in inner) ++ (trees_items (has_names h) inner ++ trees_items named others))) (name_ids named name) (
      kind_id h (trees_in inner) are.0,
      ids_append (head_items h (trees_in inner)) (trees_items (has_names h) inner ++ trees_items named others) (head_ids h (trees_in inner))
          (ids_append (trees_items (has_names h) inner) (trees_items named others) (trees_ids (has_names h) inner are.1) (trees_ids named others are.2)),
    )

-- ---- items

pub item_written : (e : TypeEvent) → HasId e → ItemIsInRange e → item_counts e ≡ true → item_is_short e ≡ true → ItemSpells e (item_bytes e)
item_written (IsNode k) i r c s = (id_of k, id_conforms k i, field_written notation.Short (Short (id_of k)) (id_small k i) refl refl)
item_written (IsField f v) i r c s = field_written (notation_for v) v r c s

items_written : (es : List TypeEvent) → HaveIds es → All ItemIsInRange es → list_all item_counts es ≡ true → list_all item_is_short es ≡ true → ItemsSpell es (flat_map item_bytes es)
items_written [] i r c s = refl
items_written (e ∷ es) i r c s =
    let cs = both (item_counts e) (list_all item_counts es) c in
    let ss = both (item_is_short e) (list_all item_is_short es) s in
    record {
      front = item_bytes e;
      back = flat_map item_bytes es;
      whole = refl;
      this = item_written e i.0 (All-head ItemIsInRange e es r) cs.0 ss.0;
      that = items_written es i.1 (All-tail ItemIsInRange e es r) cs.1 ss.1;
    }

abbrev ItemsFit : List TypeEvent → Type 0
ItemsFit es = All ItemIsInRange es × (list_all item_counts es ≡ true) × (list_all item_is_short es ≡ true)

pub item_fits : (e : TypeEvent) (b : List ℕ) → ItemSpells e b → Small b → ItemIsInRange e × (item_counts e ≡ true) × (item_is_short e ≡ true)
item_fits (IsNode k) b s all = (tt, refl, refl)
item_fits (IsField f v) b s all = field_fits (notation_for v) v b s all

items_fit : (es : List TypeEvent) (b : List ℕ) → ItemsSpell es b → Small b → ItemsFit es
items_fit [] b s all = (All-nil ItemIsInRange, refl, refl)
items_fit (e ∷ es) b s all =
    let this = item_fits e s.front s.this (small_front b s.front s.back s.whole all) in
    let that = items_fit es s.back s.that (small_back b s.front s.back s.whole all) in (
      All-cons ItemIsInRange e es this.0 that.0,
      and_of (item_counts e) (list_all item_counts es) this.1 that.1,
      and_of (item_is_short e) (list_all item_is_short es) this.2 that.2,
    )

-- ---- types

pub tree_written : (t : Trees) → is_tree t ≡ true → TreeFits t → (trees_in t ≡ 1) × AreTrees t × TreeSpells t (tree_bytes t) × (length (tree_bytes t) ≡ trees_size false t)
tree_written t is fits =
    let b = both (trees_in t == 1) (are_trees t) is in
    let are = trees_are t b.1 in
    let spelled = items_written (trees_items false t) (trees_ids false t are) fits.texts fits.counts fits.short in
    (eqb-true (trees_in t) 1 b.0, are, spelled, spelled_long false t (tree_bytes t) spelled)

pub tree_fits : (t : Trees) (b : List ℕ) → trees_in t ≡ 1 → AreTrees t → TreeSpells t b → Small b → (is_tree t ≡ true) × TreeFits t
tree_fits t b one are s all =
    let fit = items_fit (trees_items false t) b s all in
    (and_of (trees_in t == 1) (are_trees t) (eq-eqb (trees_in t) 1 one) (are_the_trees t are), record { texts = fit.0; counts = fit.1; short = fit.2 })
