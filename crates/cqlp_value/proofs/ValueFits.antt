-- Whether a value fits a type, by the values in it.
use Rattle.std.proofs.Common.{◌≡◌, ℕ, zero, suc, ◌+◌, ◌<◌, ◌^◌, get_or, Bool, true, false, ◌&&◌, eqb, ltb, List, [], ◌∷◌, length, drop, drop-cons, add-one, refl, sym, ap, ◌∙◌, arith}
use Rattle.std.specs.declared.vec.Vec.{Vec}
use Rattle.std.specs.declared.boxed.Box.{Box}
use Rattle.std.specs.declared.string.String.{String}
use Rattle.std.specs.declared.alloc.Global.{Global}
use Rattle.std.proofs.lemmas.Bool.Decides.{nat_tests}
use Rattle.cqlp_kind.specs.declared.kind.Kind.{Kind}
use Rattle.cqlp_kind.specs.declared.kind.Kind.TheVariants as kind
use Rattle.cqlp_type.specs.declared.tree.TypeTree.{TypeTree, Plain, Custom, List as ListTree, Set as SetTree, Map as MapTree, Tuple as TupleTree, Udt as UdtTree, List' as ListTree', Set' as SetTree', Map' as MapTree', Udt' as UdtTree', Tuple' as TupleTree'}
use Rattle.cqlp_type.specs.TypeLists.{listed_types, listed_fields}
use Rattle.cqlp_type.proofs.TreeLengths.{inner_tuple, inner_udt}
use Rattle.cqlp_type.specs.Trees.{kind_in, types_in}
use Rattle.cqlp_type.specs.TypeTrees.{head_of, inner_of, tree_of}
use Rattle.cqlp_kind.specs.Types.{Types, NoMore, Type_and, first_types, is_kind}
use Rattle.cqlp_value.specs.declared.value.Value.{Value, Null, Empty, Leaf, List as ListValue, Map as MapValue, Set as SetValue, Tuple as TupleValue, Udt as UdtValue, List', Map', Set', Tuple', Udt'}
use Rattle.cqlp_kind.specs.Scalars.{kind_of, scalar_fits}
use Rattle.cqlp_cell.specs.Sizes.{is_counted}
use Rattle.cqlp_value.specs.Values.{Values, NoValue, Counted_and, Fields_and, values_in, has_fields, type_copies, values_fit}
use Rattle.cqlp_value.specs.Owned.{atom_of, value_and, value_of, row_of, pairs_of, pairs_in}
use Rattle.cqlp_value.specs.Measures.{all_fit, all_pairs_fit, all_fields_fit, has_one_inner, fits_tree, types_by, listed_values, listed_pairs}
use Rattle.cqlp_value.proofs.OwnedLists.{many_values, list_is, set_is, map_is, tuple_is, udt_is}

and_true : (b c : Bool) → (b && c) ≡ ((b && true) && c)
and_true true c = refl
and_true false c = refl

and_one : (b : Bool) → b ≡ (b && true)
and_one true = refl
and_one false = refl

and_none : (b c : Bool) → false ≡ (((b && false) && c) && true)
and_none true c = refl
and_none false c = refl

and_false : (b : Bool) → (b && false) ≡ false
and_false true = refl
and_false false = refl

abbrev counted_fit : (j k : Kind) → Types → ℕ → Values → Bool
counted_fit j k inner n items = is_kind j k && is_counted k && ltb n (2 ^ 31) && values_fit (type_copies n inner) items

abbrev fielded_fit : (j k : Kind) → Types → Values → Bool
fielded_fit j k inner items = is_kind j k && has_fields k && ltb 0 (values_in items) && values_fit (first_types (values_in items) inner) items

-- a value, and others after it
pub fits_first : (k : Kind) (inner ts : Types) (v : Value) (vs : Values) → values_fit (Type_and k inner ts) (value_and v vs) ≡ (values_fit (Type_and k inner NoMore) (value_of v) && values_fit ts vs)
fits_first k inner ts Null vs = refl
fits_first k inner ts Empty vs = refl
fits_first k inner ts (Leaf a) vs = and_true (is_kind (kind_of (atom_of a)) k && scalar_fits (atom_of a)) (values_fit ts vs)
fits_first k inner ts (List' shape items) vs = and_true (counted_fit kind.List k inner (values_in (row_of items)) (row_of items)) (values_fit ts vs)
fits_first k inner ts (Map' shape pairs) vs = and_true (counted_fit kind.Map k inner (pairs_in pairs) (pairs_of pairs)) (values_fit ts vs)
fits_first k inner ts (Set' shape items) vs = and_true (counted_fit kind.Set k inner (values_in (row_of items)) (row_of items)) (values_fit ts vs)
fits_first k inner ts (Tuple' shape items) vs = and_true (fielded_fit kind.Tuple k inner (row_of items)) (values_fit ts vs)
fits_first k inner ts (Udt' shape items) vs = and_true (fielded_fit kind.Udt k inner (row_of items)) (values_fit ts vs)

from_next : {X : Type 0} (xs : List X) (i : ℕ) (x : X) → x ≡ get_or xs i x → i < length xs → drop i xs ≡ x ∷ drop (i + 1) xs
from_next xs i x here lt = drop-cons xs i x lt ∙ ap (λ y. y ∷ drop (suc i) xs) (sym here) ∙ ap (λ (n : ℕ). x ∷ drop n xs) (sym (add-one i))

no_type : (v : Value) (vs : Values) → values_fit NoMore (value_and v vs) ≡ false
no_type Null vs = refl
no_type Empty vs = refl
no_type (Leaf a) vs = refl
no_type (List' shape items) vs = refl
no_type (Map' shape pairs) vs = refl
no_type (Set' shape items) vs = refl
no_type (Tuple' shape items) vs = refl
no_type (Udt' shape items) vs = refl

-- ---- items

pub items_next : (t : TypeTree) (vs : List Value) (i : ℕ) (v : Value) → v ≡ get_or vs i v → i < length vs → all_fit t (drop i vs) ≡ (fits_tree v t && all_fit t (drop (i + 1) vs))
items_next t vs i v here lt =
    let k = kind_in (head_of t) in
    let inner = types_in (inner_of t) in
    let rest = drop (i + 1) vs in
    rw (from_next vs i v here lt) (fits_first k inner (type_copies (length rest) (Type_and k inner NoMore)) v (listed_values rest))

pub pairs_next : (t u : TypeTree) (xs : List (Value × Value)) (i : ℕ) (x : Value × Value) → x ≡ get_or xs i x → i < length xs → all_pairs_fit t u (drop i xs) ≡ (fits_tree x.0 t && (fits_tree x.1 u && all_pairs_fit t u (drop (i + 1) xs)))
pairs_next t u xs i x here lt =
    let k = kind_in (head_of t) in
    let inner = types_in (inner_of t) in
    let j = kind_in (head_of u) in
    let others = types_in (inner_of u) in
    let rest = drop (i + 1) xs in
    let copies = type_copies (length rest) (Type_and k inner (Type_and j others NoMore)) in
    rw (from_next xs i x here lt) (fits_first k inner (Type_and j others copies) x.0 (value_and x.1 (listed_pairs rest)) ∙ ap (λ (b : Bool). fits_tree x.0 t && b) (fits_first j others copies x.1 (listed_pairs rest)))

-- ---- fields

module _ {X : Type 0} (f : X → TypeTree) where
  pub fields_next : (vs : List Value) (xs : List X) (i : ℕ) (v : Value) (x : X) → v ≡ get_or vs i v → x ≡ get_or xs i x → i < length vs → i < length xs → all_fields_fit f (drop i vs) (drop i xs) ≡ (fits_tree v (f x) && all_fields_fit f (drop (i + 1) vs) (drop (i + 1) xs))
  fields_next vs xs i v x here there lt in_types =
      let rest = drop (i + 1) vs in
      let others = drop (i + 1) xs in
      rw (from_next vs i v here lt, from_next xs i x there in_types) (fits_first (kind_in (head_of (f x))) (types_in (inner_of (f x))) (first_types (length rest) (types_by f others)) v (listed_values rest))

  pub too_many : (vs : List Value) (xs : List X) → length xs < length vs → all_fields_fit f vs xs ≡ false
  too_many [] xs lt = absurd (omega arith)
  too_many (v ∷ vs) [] lt = no_type v (listed_values vs)
  too_many (v ∷ vs) (x ∷ xs) lt =
      let first = fits_first (kind_in (head_of (f x))) (types_in (inner_of (f x))) (first_types (length vs) (types_by f xs)) v (listed_values vs) in
      let rest = too_many vs xs (omega arith) in
      first ∙ rw rest (and_false (fits_tree v (f x)))

-- ---- by the kinds of values

pub first_true : (a b x w : Bool) → w ≡ (a && x) → b ≡ a → b ≡ true → x ≡ w
first_true a b x w e f is = rw (e, ← f, is) refl

pub first_false : (a b x w : Bool) → w ≡ (a && x) → b ≡ a → b ≡ false → false ≡ w
first_false a b x w e f is = rw (e, ← f, is) refl

list_counted : (k : Kind) → (is_kind kind.List k && is_counted k) ≡ is_kind kind.List k
list_counted kind.List = refl
list_counted k = refl

set_counted : (k : Kind) → (is_kind kind.Set k && is_counted k) ≡ is_kind kind.Set k
set_counted kind.Set = refl
set_counted k = refl

map_counted : (k : Kind) → (is_kind kind.Map k && is_counted k) ≡ is_kind kind.Map k
map_counted kind.Map = refl
map_counted k = refl

tuple_fielded : (k : Kind) → (is_kind kind.Tuple k && has_fields k) ≡ is_kind kind.Tuple k
tuple_fielded kind.Tuple = refl
tuple_fielded k = refl

udt_fielded : (k : Kind) → (is_kind kind.Udt k && has_fields k) ≡ is_kind kind.Udt k
udt_fielded kind.Udt = refl
udt_fielded k = refl

module _ (j : Kind) (t : TypeTree) where
  abbrev k : Kind
  k = kind_in (head_of t)

  abbrev inner : Types
  inner = types_in (inner_of t)

  counted_fits : (n : ℕ) (items : Values) → (is_kind j k && is_counted k) ≡ is_kind j k → values_fit (types_in (tree_of t)) (Counted_and j n items NoValue) ≡ ((is_kind j k && ltb n (2 ^ 31)) && values_fit (type_copies n inner) items)
  counted_fits n items counted = sym (and_one (counted_fit j k inner n items)) ∙ ap (λ (b : Bool). (b && ltb n (2 ^ 31)) && values_fit (type_copies n inner) items) counted

  fields_fits : (xs : List Value) → (is_kind j k && has_fields k) ≡ is_kind j k → values_fit (types_in (tree_of t)) (Fields_and j (listed_values xs) NoValue) ≡ ((is_kind j k && ltb 0 (length xs)) && values_fit (first_types (length xs) inner) (listed_values xs))
  fields_fits xs fielded = sym (and_one (fielded_fit j k inner (listed_values xs))) ∙ ap (λ (b : Bool). (b && ltb 0 (values_in (listed_values xs))) && values_fit (first_types (values_in (listed_values xs)) inner) (listed_values xs)) fielded ∙ ap (λ (n : ℕ). (is_kind j k && ltb 0 n) && values_fit (first_types n inner) (listed_values xs)) (many_values xs)

module _ (v : Vec Value Global) (t : TypeTree) where
  pub list_fits : fits_tree (ListValue v) t ≡ ((is_kind kind.List (kind_in (head_of t)) && ltb (length v.items) (2 ^ 31)) && values_fit (type_copies (length v.items) (types_in (inner_of t))) (listed_values v.items))
  list_fits = ap (values_fit (types_in (tree_of t))) (list_is v) ∙ counted_fits kind.List t (length v.items) (listed_values v.items) (list_counted (kind_in (head_of t)))

  pub set_fits : fits_tree (SetValue v) t ≡ ((is_kind kind.Set (kind_in (head_of t)) && ltb (length v.items) (2 ^ 31)) && values_fit (type_copies (length v.items) (types_in (inner_of t))) (listed_values v.items))
  set_fits = ap (values_fit (types_in (tree_of t))) (set_is v) ∙ counted_fits kind.Set t (length v.items) (listed_values v.items) (set_counted (kind_in (head_of t)))

  pub tuple_fits : fits_tree (TupleValue v) t ≡ ((is_kind kind.Tuple (kind_in (head_of t)) && ltb 0 (length v.items)) && values_fit (first_types (length v.items) (types_in (inner_of t))) (listed_values v.items))
  tuple_fits = ap (values_fit (types_in (tree_of t))) (tuple_is v) ∙ fields_fits kind.Tuple t v.items (tuple_fielded (kind_in (head_of t)))

  pub udt_fits : fits_tree (UdtValue v) t ≡ ((is_kind kind.Udt (kind_in (head_of t)) && ltb 0 (length v.items)) && values_fit (first_types (length v.items) (types_in (inner_of t))) (listed_values v.items))
  udt_fits = ap (values_fit (types_in (tree_of t))) (udt_is v) ∙ fields_fits kind.Udt t v.items (udt_fielded (kind_in (head_of t)))

pub map_fits : (v : Vec (Value × Value) Global) (t : TypeTree) → fits_tree (MapValue v) t ≡ ((is_kind kind.Map (kind_in (head_of t)) && ltb (length v.items) (2 ^ 31)) && values_fit (type_copies (length v.items) (types_in (inner_of t))) (listed_pairs v.items))
map_fits v t = ap (values_fit (types_in (tree_of t))) (map_is v) ∙ counted_fits kind.Map t (length v.items) (listed_pairs v.items) (map_counted (kind_in (head_of t)))

-- ---- types without inner types

more_than_none : (n : ℕ) → eqb (suc n) 0 ≡ false
more_than_none n = grind (arith, nat_tests)

copies_none : (n : ℕ) → type_copies n NoMore ≡ NoMore
copies_none zero = refl
copies_none (suc n) = copies_none n

pub no_items : (xs : List Value) → eqb (length xs) 0 ≡ values_fit (type_copies (length xs) NoMore) (listed_values xs)
no_items [] = refl
no_items (x ∷ xs) = more_than_none (length xs) ∙ rw (copies_none (length xs)) (sym (no_type x (listed_values xs)))

pub no_pairs : (xs : List (Value × Value)) → eqb (length xs) 0 ≡ values_fit (type_copies (length xs) NoMore) (listed_pairs xs)
no_pairs [] = refl
no_pairs (x ∷ xs) = more_than_none (length xs) ∙ rw (copies_none (length xs)) (sym (no_type x.0 (value_and x.1 (listed_pairs xs))))

pub no_fields : (xs : List Value) → eqb (length xs) 0 ≡ values_fit (first_types (length xs) NoMore) (listed_values xs)
no_fields [] = refl
no_fields (x ∷ xs) = more_than_none (length xs) ∙ sym (no_type x (listed_values xs))

types_listed : (ts : List TypeTree) → types_in (listed_types ts) ≡ types_by (λ t. t) ts
types_listed [] = refl
types_listed (t ∷ ts) = ap (Type_and (kind_in (head_of t)) (types_in (inner_of t))) (types_listed ts)

fields_listed : (xs : List (String Global × TypeTree)) → types_in (listed_fields xs) ≡ types_by (λ x. x.1) xs
fields_listed [] = refl
fields_listed (x ∷ xs) = ap (Type_and (kind_in (head_of x.1)) (types_in (inner_of x.1))) (fields_listed xs)

pub tuple_types : (v : Vec TypeTree Global) → types_in (inner_of (TupleTree v)) ≡ types_by (λ t. t) v.items
tuple_types v = ap types_in (inner_tuple v) ∙ types_listed v.items

pub udt_types : (keyspace name : String Global) (v : Vec (String Global × TypeTree) Global) → types_in (inner_of (UdtTree keyspace name v)) ≡ types_by (λ x. x.1) v.items
udt_types keyspace name v = ap types_in (inner_udt keyspace name v) ∙ fields_listed v.items

-- a type of a kind that has inner types, but without them
abbrev pub HasNone : TypeTree → Type 0
HasNone t = types_in (inner_of t) ≡ NoMore

pub no_inner : (t : TypeTree) → has_one_inner (kind_in (head_of t)) ≡ true → ((b : Box TypeTree Global) → t ≡ ListTree b → ⊥) → ((b : Box TypeTree Global) → t ≡ SetTree b → ⊥) → HasNone t
no_inner (Plain k) one list set = refl
no_inner (Custom class) one list set = absurd cc
no_inner (ListTree' p t) one list set = absurd (list (record { ptr = p.ptr; alloc = p.alloc; value = t }) refl)
no_inner (SetTree' p t) one list set = absurd (set (record { ptr = p.ptr; alloc = p.alloc; value = t }) refl)
no_inner (MapTree' p t q u) one list set = absurd cc
no_inner (UdtTree' keyspace name shape fields) one list set = absurd cc
no_inner (TupleTree' shape types) one list set = absurd cc

pub no_pair : (t : TypeTree) → is_kind kind.Map (kind_in (head_of t)) ≡ true → ((b c : Box TypeTree Global) → t ≡ MapTree b c → ⊥) → HasNone t
no_pair (Plain k) is map = refl
no_pair (Custom class) is map = absurd cc
no_pair (ListTree' p t) is map = absurd cc
no_pair (SetTree' p t) is map = absurd cc
no_pair (MapTree' p t q u) is map = absurd (map (record { ptr = p.ptr; alloc = p.alloc; value = t }) (record { ptr = q.ptr; alloc = q.alloc; value = u }) refl)
no_pair (UdtTree' keyspace name shape fields) is map = absurd cc
no_pair (TupleTree' shape types) is map = absurd cc
