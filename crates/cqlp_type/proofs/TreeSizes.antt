-- How many bytes the option of a type has, from those of its parts.
use Rattle.std.proofs.Common.{◌≡◌, ℕ, ◌+◌, ◌<◌, get_or, true, false, List, [], ◌∷◌, ◌++◌, length, take, sym, ap, ◌∙◌, arith}
use Rattle.std.specs.Prelude.{string_bytes}
use Rattle.std.proofs.lemmas.List.{take_more}
use Rattle.std.specs.declared.vec.Vec.{Vec}
use Rattle.std.specs.declared.boxed.Box.{Box}
use Rattle.std.specs.declared.string.String.{String}
use Rattle.std.specs.declared.alloc.Global.{Global}
use Rattle.cqlp_type.specs.declared.tree.TypeTree.{TypeTree, List as ListTree, Set, Map, Udt, Tuple}
use Rattle.cqlp_type.specs.TypeTrees.{tree_of, trees_size}
use Rattle.cqlp_type.specs.TypeLists.{listed_types, listed_fields}
use Rattle.cqlp_type.proofs.TreeLengths.{inner_tuple, inner_udt, types_more, fields_more}

abbrev pub size_of : TypeTree → ℕ
size_of t = trees_size false (tree_of t)

pub list_size : (b : Box TypeTree Global) → size_of (ListTree b) ≡ 2 + size_of b.value
list_size b = omega arith

pub set_size : (b : Box TypeTree Global) → size_of (Set b) ≡ 2 + size_of b.value
set_size b = omega arith

pub map_size : (b c : Box TypeTree Global) → size_of (Map b c) ≡ 2 + size_of b.value + size_of c.value
map_size b c = omega arith

pub tuple_size : (v : Vec TypeTree Global) → size_of (Tuple v) ≡ 4 + trees_size false (listed_types v.items)
tuple_size v = let e = ap (trees_size false) (inner_tuple v) in omega arith

pub udt_size : (k m : String Global) (v : Vec (String Global × TypeTree) Global) → size_of (Udt k m v) ≡ 4 + (2 + length (string_bytes k)) + (2 + length (string_bytes m)) + trees_size true (listed_fields v.items)
udt_size k m v = let e = ap (trees_size true) (inner_udt k m v) in omega arith

pub types_size_next : (ts : List TypeTree) (i : ℕ) (t : TypeTree) → t ≡ get_or ts i t → i < length ts → trees_size false (listed_types (take (i + 1) ts)) ≡ trees_size false (listed_types (take i ts)) + size_of t
types_size_next ts i t here lt =
    let more : take (i + 1) ts ≡ take i ts ++ t ∷ [] = take_more ts i t lt ∙ ap (λ (x : TypeTree). take i ts ++ x ∷ []) (sym here) in
    let e = (types_more (take i ts) t).1 in
    rw more (omega arith)

pub fields_size_next : (xs : List (String Global × TypeTree)) (i : ℕ) (x : String Global × TypeTree) → x ≡ get_or xs i x → i < length xs → trees_size true (listed_fields (take (i + 1) xs)) ≡ trees_size true (listed_fields (take i xs)) + (2 + length (string_bytes x.0)) + size_of x.1
fields_size_next xs i x here lt =
    let more : take (i + 1) xs ≡ take i xs ++ x ∷ [] = take_more xs i x lt ∙ ap (λ (y : String Global × TypeTree). take i xs ++ y ∷ []) (sym here) in
    let e = (fields_more (take i xs) x).1 in
    rw more (omega arith)
