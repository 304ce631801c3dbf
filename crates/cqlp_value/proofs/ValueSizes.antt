-- How many bytes spell a value, by the values in it.
use Rattle.std.proofs.Common.{◌≡◌, ℕ, ◌+◌, ◌<◌, ◌≤◌, get_or, Bool, true, false, List, [], ◌∷◌, ◌++◌, length, take, refl, sym, ap, ◌∙◌, arith}
use Rattle.std.specs.Prelude.{Option, None}
use Rattle.cqlp_note.specs.declared.header.TheConstants.Header.{LONGEST_BODY}
use Rattle.cqlp_type.specs.TypeTrees.{len_if}
use Rattle.std.proofs.lemmas.Bool.{lt-leb}
use Rattle.std.proofs.lemmas.List.{take_more}
use Rattle.std.specs.declared.vec.Vec.{Vec}
use Rattle.std.specs.declared.alloc.Global.{Global}
use Rattle.cqlp_value.specs.declared.value.Value.{Value, Null, Empty, Leaf, List as ListValue, Map as MapValue, Set as SetValue, Tuple as TupleValue, Udt as UdtValue, List', Map', Set', Tuple', Udt'}
use Rattle.cqlp_value.specs.Values.{Values, values_size}
use Rattle.cqlp_value.specs.Owned.{value_and, value_of}
use Rattle.cqlp_value.specs.Measures.{listed_values, listed_pairs}
use Rattle.cqlp_value.proofs.OwnedLists.{list_is, set_is, map_is, tuple_is, udt_is}

pub size_first : (v : Value) (vs : Values) → values_size (value_and v vs) ≡ values_size (value_of v) + values_size vs
size_first Null vs = omega arith
size_first Empty vs = omega arith
size_first (Leaf a) vs = omega arith
size_first (List' shape items) vs = omega arith
size_first (Map' shape pairs) vs = omega arith
size_first (Set' shape items) vs = omega arith
size_first (Tuple' shape items) vs = omega arith
size_first (Udt' shape items) vs = omega arith

one_more : (vs : List Value) (v : Value) → values_size (listed_values (vs ++ v ∷ [])) ≡ values_size (listed_values vs) + values_size (value_of v)
one_more [] v = omega arith
one_more (x ∷ vs) v = omega (arith, size_first x (listed_values (vs ++ v ∷ [])), size_first x (listed_values vs), one_more vs v)

pair_more : (xs : List (Value × Value)) (x : Value × Value) → values_size (listed_pairs (xs ++ x ∷ [])) ≡ values_size (listed_pairs xs) + values_size (value_of x.0) + values_size (value_of x.1)
pair_more [] x = omega (arith, size_first x.0 (value_of x.1))
pair_more (y ∷ xs) x =
    omega (arith, size_first y.0 (value_and y.1 (listed_pairs (xs ++ x ∷ []))), size_first y.1 (listed_pairs (xs ++ x ∷ [])), size_first y.0 (value_and y.1 (listed_pairs xs)), size_first y.1 (listed_pairs xs), pair_more xs x)

pub size_next : (vs : List Value) (i : ℕ) (v : Value) → v ≡ get_or vs i v → i < length vs → values_size (listed_values (take (i + 1) vs)) ≡ values_size (listed_values (take i vs)) + values_size (value_of v)
size_next vs i v here lt =
    let more : take (i + 1) vs ≡ take i vs ++ v ∷ [] = take_more vs i v lt ∙ ap (λ (y : Value). take i vs ++ y ∷ []) (sym here) in
    rw more (one_more (take i vs) v)

pub pair_next : (xs : List (Value × Value)) (i : ℕ) (x : Value × Value) → x ≡ get_or xs i x → i < length xs → values_size (listed_pairs (take (i + 1) xs)) ≡ values_size (listed_pairs (take i xs)) + values_size (value_of x.0) + values_size (value_of x.1)
pair_next xs i x here lt =
    let more : take (i + 1) xs ≡ take i xs ++ x ∷ [] = take_more xs i x lt ∙ ap (λ (y : Value × Value). take i xs ++ y ∷ []) (sym here) in
    rw more (pair_more (take i xs) x)

module _ (v : Vec Value Global) where
  pub list_size : values_size (value_of (ListValue v)) ≡ values_size (listed_values v.items) + 8
  list_size = ap values_size (list_is v) ∙ (omega arith)

  pub set_size : values_size (value_of (SetValue v)) ≡ values_size (listed_values v.items) + 8
  set_size = ap values_size (set_is v) ∙ (omega arith)

  pub tuple_size : values_size (value_of (TupleValue v)) ≡ values_size (listed_values v.items) + 4
  tuple_size = ap values_size (tuple_is v) ∙ (omega arith)

  pub udt_size : values_size (value_of (UdtValue v)) ≡ values_size (listed_values v.items) + 4
  udt_size = ap values_size (udt_is v) ∙ (omega arith)

pub map_size : (v : Vec (Value × Value) Global) → values_size (value_of (MapValue v)) ≡ values_size (listed_pairs v.items) + 8
map_size v = ap values_size (map_is v) ∙ (omega arith)

pub too_long : (b : Bool) (n : ℕ) → LONGEST_BODY < n → ◌≡◌ {A = Option ℕ} None (len_if b n)
too_long true n lt = rw (lt-leb n LONGEST_BODY lt) refl
too_long false n lt = refl

pub some_size : (v : Value) → 4 ≤ values_size (value_of v)
some_size Null = omega arith
some_size Empty = omega arith
some_size (Leaf a) = omega arith
some_size (List' shape items) = omega arith
some_size (Map' shape pairs) = omega arith
some_size (Set' shape items) = omega arith
some_size (Tuple' shape items) = omega arith
some_size (Udt' shape items) = omega arith
