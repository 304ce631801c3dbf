-- The types in types, and values side by side.
use Rattle.std.proofs.Common.{◌≡◌, ℕ, zero, suc, ◌<◌, ◌&&◌, get_or, Bool, true, false, List, [], ◌∷◌, ◌++◌, length, refl, sym, ap, ◌∙◌, inl, inr, arith}
use Rattle.std.specs.declared.vec.Vec.{Vec}
use Rattle.std.specs.declared.boxed.Box.{Box}
use Rattle.std.specs.declared.string.String.{String}
use Rattle.std.specs.declared.alloc.Global.{Global}
use Rattle.cqlp_kind.specs.declared.kind.Kind.{Kind}
use Rattle.cqlp_kind.specs.declared.kind.Kind.TheVariants as kind
use Rattle.cqlp_kind.specs.Types.{has_no_items, is_plain}
use Rattle.cqlp_type.specs.declared.tree.TypeTree.{TypeTree, Plain, List as ListTree, Set as SetTree, Map as MapTree, Tuple as TupleTree, Udt as UdtTree}
use Rattle.cqlp_type.specs.Trees.{are_trees}
use Rattle.cqlp_type.specs.TypeLists.{listed_types, listed_fields}
use Rattle.cqlp_type.specs.TypeTrees.{tree_of}
use Rattle.cqlp_type.proofs.TreeLengths.{inner_tuple, inner_udt}
use Rattle.cqlp_value.specs.declared.value.Value.{Value, Null, Empty, Leaf, List', Map', Set', Tuple', Udt'}
use Rattle.cqlp_value.specs.Measures.{listed_pairs, listed_values}
use Rattle.cqlp_value.specs.Owned.{value_and, value_of}
use Rattle.cqlp_value.specs.Values.{Values, NoValue}
use Rattle.cqlp_value.proofs.ReadBack.{with_others}
use Rattle.cqlp_build_cells.specs.Said.{IsReadable}

-- ---- types

one_true : (b : Bool) → ((true && b) && true) ≡ true → b ≡ true
one_true true e = refl
one_true false e = absurd cc

first_true : (a b : Bool) → (a && b) ≡ true → a ≡ true
first_true true b e = refl
first_true false b e = absurd cc

second_true : (a b : Bool) → (a && b) ≡ true → b ≡ true
second_true true b e = e
second_true false b e = absurd cc

and_true : (b : Bool) → b ≡ true → (b && true) ≡ true
and_true true e = refl
and_true false e = absurd cc

pub list_readable : (t u : TypeTree) (b : Box TypeTree Global) → t ≡ ListTree b → u ≡ b.value → IsReadable t → IsReadable u
list_readable t u b is same (inl h) = inl (ap (λ (x : TypeTree). are_trees (tree_of x)) same ∙ one_true _ (ap (λ (x : TypeTree). are_trees (tree_of x)) (sym is) ∙ h))
list_readable t u b is same (inr e) = let no : ListTree b ≡ Plain kind.Raw = sym is ∙ e in absurd cc

pub set_readable : (t u : TypeTree) (b : Box TypeTree Global) → t ≡ SetTree b → u ≡ b.value → IsReadable t → IsReadable u
set_readable t u b is same (inl h) = inl (ap (λ (x : TypeTree). are_trees (tree_of x)) same ∙ one_true _ (ap (λ (x : TypeTree). are_trees (tree_of x)) (sym is) ∙ h))
set_readable t u b is same (inr e) = let no : SetTree b ≡ Plain kind.Raw = sym is ∙ e in absurd cc

pub keys_readable : (t u : TypeTree) (b d : Box TypeTree Global) → t ≡ MapTree b d → u ≡ b.value → IsReadable t → IsReadable u
keys_readable t u b d is same (inl h) =
    let both = one_true _ (ap (λ (x : TypeTree). are_trees (tree_of x)) (sym is) ∙ h) in
    inl (ap (λ (x : TypeTree). are_trees (tree_of x)) same ∙ and_true _ (first_true _ _ both))
keys_readable t u b d is same (inr e) = let no : MapTree b d ≡ Plain kind.Raw = sym is ∙ e in absurd cc

pub values_readable : (t u : TypeTree) (b d : Box TypeTree Global) → t ≡ MapTree b d → u ≡ d.value → IsReadable t → IsReadable u
values_readable t u b d is same (inl h) =
    let both = one_true _ (ap (λ (x : TypeTree). are_trees (tree_of x)) (sym is) ∙ h) in
    inl (ap (λ (x : TypeTree). are_trees (tree_of x)) same ∙ second_true _ _ both)
values_readable t u b d is same (inr e) = let no : MapTree b d ≡ Plain kind.Raw = sym is ∙ e in absurd cc

pub tuple_readable : (t : TypeTree) (v : Vec TypeTree Global) (ts : List TypeTree) → t ≡ TupleTree v → ts ≡ v.items → IsReadable t → are_trees (listed_types ts) ≡ true
tuple_readable t v ts is same (inl h) = ap (λ (x : List TypeTree). are_trees (listed_types x)) same ∙ ap are_trees (sym (inner_tuple v)) ∙ one_true _ (ap (λ (x : TypeTree). are_trees (tree_of x)) (sym is) ∙ h)
tuple_readable t v ts is same (inr e) = let no : TupleTree v ≡ Plain kind.Raw = sym is ∙ e in absurd cc

pub udt_readable : (t : TypeTree) (keyspace name : String Global) (v : Vec (String Global × TypeTree) Global) (xs : List (String Global × TypeTree)) → t ≡ UdtTree keyspace name v → xs ≡ v.items → IsReadable t → are_trees (listed_fields xs) ≡ true
udt_readable t keyspace name v xs is same (inl h) = ap (λ (x : List (String Global × TypeTree)). are_trees (listed_fields x)) same ∙ ap are_trees (sym (inner_udt keyspace name v)) ∙ one_true _ (ap (λ (x : TypeTree). are_trees (tree_of x)) (sym is) ∙ h)
udt_readable t keyspace name v xs is same (inr e) = let no : UdtTree keyspace name v ≡ Plain kind.Raw = sym is ∙ e in absurd cc

pub type_readable : (ts : List TypeTree) (i : ℕ) (t : TypeTree) → t ≡ get_or ts i t → i < length ts → are_trees (listed_types ts) ≡ true → IsReadable t
type_readable [] i t here lt h = absurd (omega arith)
type_readable (u ∷ ts) zero t here lt h = inl (ap (λ (x : TypeTree). are_trees (tree_of x)) here ∙ and_true _ (first_true _ _ h))
type_readable (u ∷ ts) (suc i) t here lt h = type_readable ts i t here (omega arith) (second_true _ _ h)

pub field_readable : (xs : List (String Global × TypeTree)) (i : ℕ) (x : String Global × TypeTree) → x ≡ get_or xs i x → i < length xs → are_trees (listed_fields xs) ≡ true → IsReadable x.1
field_readable [] i x here lt h = absurd (omega arith)
field_readable (y ∷ xs) zero x here lt h = inl (ap (λ (z : String Global × TypeTree). are_trees (tree_of z.1)) here ∙ and_true _ (first_true _ _ h))
field_readable (y ∷ xs) (suc i) x here lt h = field_readable xs i x here (omega arith) (second_true _ _ h)

plain_scalar : (k : Kind) → is_plain k ≡ true → has_no_items k ≡ true
plain_scalar kind.List e = absurd cc
plain_scalar kind.Map e = absurd cc
plain_scalar kind.Set e = absurd cc
plain_scalar kind.Udt e = absurd cc
plain_scalar kind.Tuple e = absurd cc
plain_scalar k e = refl

plain_kind : (j k : Kind) → Plain j ≡ Plain k → j ≡ k
plain_kind j k e = cc

pub plain_readable : (t : TypeTree) (k : Kind) → t ≡ Plain k → IsReadable t → has_no_items k ≡ true
plain_readable t k is (inl h) = plain_scalar k (first_true _ _ (first_true _ _ (first_true _ _ (ap (λ (x : TypeTree). are_trees (tree_of x)) (sym is) ∙ h))))
plain_readable t k is (inr e) = let raw = plain_kind k kind.Raw (sym is ∙ e) in rw raw refl

-- ---- values side by side

pub and_others : (v : Value) (vs ws : Values) → with_others (value_and v vs) ws ≡ value_and v (with_others vs ws)
and_others Null vs ws = refl
and_others Empty vs ws = refl
and_others (Leaf a) vs ws = refl
and_others (List' shape items) vs ws = refl
and_others (Map' shape pairs) vs ws = refl
and_others (Set' shape items) vs ws = refl
and_others (Tuple' shape items) vs ws = refl
and_others (Udt' shape items) vs ws = refl

pub values_snoc : (xs : List Value) (v : Value) → listed_values (xs ++ v ∷ []) ≡ with_others (listed_values xs) (value_of v)
values_snoc [] v = refl
values_snoc (x ∷ xs) v = ap (value_and x) (values_snoc xs v) ∙ sym (and_others x (listed_values xs) (value_of v))

pub pairs_snoc : (xs : List (Value × Value)) (x : Value × Value) → listed_pairs (xs ++ x ∷ []) ≡ with_others (listed_pairs xs) (with_others (value_of x.0) (value_of x.1))
pairs_snoc [] x = sym (and_others x.0 NoValue (value_of x.1))
pairs_snoc (y ∷ xs) x =
    let these = with_others (value_of x.0) (value_of x.1) in
    ap (λ (vs : Values). value_and y.0 (value_and y.1 vs)) (pairs_snoc xs x)
    ∙ ap (value_and y.0) (sym (and_others y.1 (listed_pairs xs) these))
    ∙ sym (and_others y.0 (value_and y.1 (listed_pairs xs)) these)
