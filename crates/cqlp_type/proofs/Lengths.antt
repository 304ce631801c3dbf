-- How many bytes spell the items of types.
use Rattle.std.proofs.Common.{◌≡◌, ℕ, ◌+◌, Bool, true, false, List, [], ◌∷◌, ◌++◌, length, refl, ap, ◌∙◌, arith}
use Rattle.std.proofs.lemmas.List.{length-append}
use Rattle.cqlp_kind.specs.TypeStep.{TypeEvent, IsNode}
use Rattle.cqlp_type.specs.Trees.{Head, Plain, Custom, ListOf, SetOf, MapOf, TupleOf, UdtOf, Trees, NoTree, Tree_and, kind_in, trees_in, has_names, head_items, name_items, trees_items, ItemsSpell, items_size}
use Rattle.cqlp_type.specs.TypeTrees.{name_size, head_size, trees_size}
use Rattle.cqlp_type.proofs.ReadBack.{item_sized}

items_long : (es : List TypeEvent) (b : List ℕ) → ItemsSpell es b → length b ≡ items_size es
items_long [] b s = ap length s
items_long (e ∷ es) b s = omega (arith, ap length s.whole, length-append s.front s.back, item_sized e s.front s.this, items_long es s.back s.that)

items_append : (es fs : List TypeEvent) → items_size (es ++ fs) ≡ items_size es + items_size fs
items_append [] fs = omega arith
items_append (e ∷ es) fs = omega (arith, items_append es fs)

name_sized : (named : Bool) (name : List ℕ) → items_size (name_items named name) ≡ name_size named name
name_sized true name = omega arith
name_sized false name = refl

head_sized : (h : Head) (n : ℕ) → items_size (head_items h n) ≡ head_size h
head_sized (Plain k) n = refl
head_sized (Custom class) n = omega arith
head_sized ListOf n = refl
head_sized SetOf n = refl
head_sized MapOf n = refl
head_sized TupleOf n = refl
head_sized (UdtOf keyspace name) n = omega arith

trees_sized : (named : Bool) (ts : Trees) → items_size (trees_items named ts) ≡ trees_size named ts
trees_sized named NoTree = refl
trees_sized named (Tree_and name h inner others) =
    omega (
      arith,
      items_append (name_items named name) (IsNode (kind_in h) ∷ (head_items h (trees_in inner) ++ (trees_items (has_names h) inner ++ trees_items named others))),
      items_append (head_items h (trees_in inner)) (trees_items (has_names h) inner ++ trees_items named others),
      items_append (trees_items (has_names h) inner) (trees_items named others),
      name_sized named name,
      head_sized h (trees_in inner),
      trees_sized (has_names h) inner,
      trees_sized named others,
    )

pub spelled_long : (named : Bool) (ts : Trees) (b : List ℕ) → ItemsSpell (trees_items named ts) b → length b ≡ trees_size named ts
spelled_long named ts b s = items_long (trees_items named ts) b s ∙ trees_sized named ts
