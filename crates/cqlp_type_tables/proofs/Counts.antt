-- How many nodes types have, from how many those in them have.
use Rattle.std.proofs.Common.{◌≡◌, ℕ, suc, ◌+◌, ◌<◌, get_or, List, [], ◌∷◌, ◌++◌, length, take, sym, ap, ◌∙◌, arith}
use Rattle.std.proofs.lemmas.List.{take_more}
use Rattle.std.specs.declared.vec.Vec.{Vec}
use Rattle.std.specs.declared.boxed.Box.{Box}
use Rattle.std.specs.declared.string.String.{String}
use Rattle.std.specs.declared.alloc.Global.{Global}
use Rattle.cqlp_type.specs.declared.tree.TypeTree.{TypeTree, List as ListTree, Set, Map, Udt, Tuple}
use Rattle.cqlp_type.specs.Trees.{options_in}
use Rattle.cqlp_type.specs.TypeTrees.{tree_of}
use Rattle.cqlp_type.specs.TypeLists.{listed_types, listed_fields}
use Rattle.cqlp_type.proofs.TreeLengths.{inner_tuple, inner_udt}

abbrev pub nodes_of : TypeTree → ℕ
nodes_of t = options_in (tree_of t)

pub list_nodes : (b : Box TypeTree Global) → nodes_of (ListTree b) ≡ suc (nodes_of b.value)
list_nodes b = omega arith

pub set_nodes : (b : Box TypeTree Global) → nodes_of (Set b) ≡ suc (nodes_of b.value)
set_nodes b = omega arith

pub map_nodes : (b c : Box TypeTree Global) → nodes_of (Map b c) ≡ suc (nodes_of b.value + nodes_of c.value)
map_nodes b c = omega arith

pub tuple_nodes : (v : Vec TypeTree Global) → nodes_of (Tuple v) ≡ suc (options_in (listed_types v.items))
tuple_nodes v = let e = ap options_in (inner_tuple v) in omega arith

pub udt_nodes : (k m : String Global) (v : Vec (String Global × TypeTree) Global) → nodes_of (Udt k m v) ≡ suc (options_in (listed_fields v.items))
udt_nodes k m v = let e = ap options_in (inner_udt k m v) in omega arith

types_more : (ts : List TypeTree) (t : TypeTree) → options_in (listed_types (ts ++ t ∷ [])) ≡ options_in (listed_types ts) + nodes_of t
types_more [] t = omega arith
types_more (x ∷ ts) t = omega (arith, types_more ts t)

fields_more : (xs : List (String Global × TypeTree)) (x : String Global × TypeTree) → options_in (listed_fields (xs ++ x ∷ [])) ≡ options_in (listed_fields xs) + nodes_of x.1
fields_more [] x = omega arith
fields_more (y ∷ xs) x = omega (arith, fields_more xs x)

pub types_next : (ts : List TypeTree) (i : ℕ) (t : TypeTree) → t ≡ get_or ts i t → i < length ts → options_in (listed_types (take (i + 1) ts)) ≡ options_in (listed_types (take i ts)) + nodes_of t
types_next ts i t here lt =
    let more : take (i + 1) ts ≡ take i ts ++ t ∷ [] = take_more ts i t lt ∙ ap (λ (x : TypeTree). take i ts ++ x ∷ []) (sym here) in
    rw more (types_more (take i ts) t)

pub fields_next : (xs : List (String Global × TypeTree)) (i : ℕ) (x : String Global × TypeTree) → x ≡ get_or xs i x → i < length xs → options_in (listed_fields (take (i + 1) xs)) ≡ options_in (listed_fields (take i xs)) + nodes_of x.1
fields_next xs i x here lt =
    let more : take (i + 1) xs ≡ take i xs ++ x ∷ [] = take_more xs i x lt ∙ ap (λ (y : String Global × TypeTree). take i xs ++ y ∷ []) (sym here) in
    rw more (fields_more (take i xs) x)
