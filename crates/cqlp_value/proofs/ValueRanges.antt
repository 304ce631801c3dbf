-- The scalars of a caller's values are in range, by the values in it.
use Rattle.std.proofs.Common.{◌≡◌, ℕ, ◌+◌, ◌<◌, get_or, List, [], ◌∷◌, ◌++◌, length, take, subst, sym, ap, ◌∙◌}
use Rattle.std.proofs.lemmas.List.{take_more}
use Rattle.std.specs.declared.vec.Vec.{Vec}
use Rattle.std.specs.declared.alloc.Global.{Global}
use Rattle.cqlp_value.specs.declared.value.Value.{Value, Null, Empty, Leaf, List as ListValue, Map as MapValue, Set as SetValue, Tuple as TupleValue, Udt as UdtValue, List', Map', Set', Tuple', Udt'}
use Rattle.cqlp_value.specs.Values.{Values, AreInRange}
use Rattle.cqlp_value.specs.Owned.{value_and, value_of}
use Rattle.cqlp_value.specs.Measures.{listed_values, listed_pairs}
use Rattle.cqlp_value.proofs.OwnedLists.{list_is, set_is, map_is, tuple_is, udt_is}

range_and : (v : Value) (vs : Values) → AreInRange (value_of v) → AreInRange vs → AreInRange (value_and v vs)
range_and Null vs r s = s
range_and Empty vs r s = s
range_and (Leaf a) vs r s = (r.0, s)
range_and (List' shape items) vs r s = (r.0, s)
range_and (Map' shape pairs) vs r s = (r.0, s)
range_and (Set' shape items) vs r s = (r.0, s)
range_and (Tuple' shape items) vs r s = (r.0, s)
range_and (Udt' shape items) vs r s = (r.0, s)

range_both : (v : Value) (vs : Values) → AreInRange (value_and v vs) → AreInRange (value_of v) × AreInRange vs
range_both Null vs r = (tt, r)
range_both Empty vs r = (tt, r)
range_both (Leaf a) vs r = ((r.0, tt), r.1)
range_both (List' shape items) vs r = ((r.0, tt), r.1)
range_both (Map' shape pairs) vs r = ((r.0, tt), r.1)
range_both (Set' shape items) vs r = ((r.0, tt), r.1)
range_both (Tuple' shape items) vs r = ((r.0, tt), r.1)
range_both (Udt' shape items) vs r = ((r.0, tt), r.1)

one_more : (vs : List Value) (v : Value) → AreInRange (listed_values vs) → AreInRange (value_of v) → AreInRange (listed_values (vs ++ v ∷ []))
one_more [] v r s = s
one_more (x ∷ vs) v r s =
    let both = range_both x (listed_values vs) r in
    range_and x (listed_values (vs ++ v ∷ [])) both.0 (one_more vs v both.1 s)

pair_more : (xs : List (Value × Value)) (x : Value × Value) → AreInRange (listed_pairs xs) → AreInRange (value_of x.0) → AreInRange (value_of x.1) → AreInRange (listed_pairs (xs ++ x ∷ []))
pair_more [] x r s t = range_and x.0 (value_of x.1) s t
pair_more (y ∷ xs) x r s t =
    let first = range_both y.0 (value_and y.1 (listed_pairs xs)) r in
    let second = range_both y.1 (listed_pairs xs) first.1 in
    range_and y.0 (value_and y.1 (listed_pairs (xs ++ x ∷ []))) first.0 (range_and y.1 (listed_pairs (xs ++ x ∷ [])) second.0 (pair_more xs x second.1 s t))

pub range_next : (vs : List Value) (i : ℕ) (v : Value) → v ≡ get_or vs i v → i < length vs → AreInRange (listed_values (take i vs)) → AreInRange (value_of v) → AreInRange (listed_values (take (i + 1) vs))
range_next vs i v here lt r s =
    let more : take (i + 1) vs ≡ take i vs ++ v ∷ [] = take_more vs i v lt ∙ ap (λ (y : Value). take i vs ++ y ∷ []) (sym here) in
    rw more (one_more (take i vs) v r s)

pub pair_range_next : (xs : List (Value × Value)) (i : ℕ) (x : Value × Value) → x ≡ get_or xs i x → i < length xs → AreInRange (listed_pairs (take i xs)) → AreInRange (value_of x.0) → AreInRange (value_of x.1) → AreInRange (listed_pairs (take (i + 1) xs))
pair_range_next xs i x here lt r s t =
    let more : take (i + 1) xs ≡ take i xs ++ x ∷ [] = take_more xs i x lt ∙ ap (λ (y : Value × Value). take i xs ++ y ∷ []) (sym here) in
    rw more (pair_more (take i xs) x r s t)

module _ (v : Vec Value Global) (r : AreInRange (listed_values v.items)) where
  pub list_range : AreInRange (value_of (ListValue v))
  list_range = subst (λ (x : Values). AreInRange x) (sym (list_is v)) (r, tt)

  pub set_range : AreInRange (value_of (SetValue v))
  set_range = subst (λ (x : Values). AreInRange x) (sym (set_is v)) (r, tt)

  pub tuple_range : AreInRange (value_of (TupleValue v))
  tuple_range = subst (λ (x : Values). AreInRange x) (sym (tuple_is v)) (r, tt)

  pub udt_range : AreInRange (value_of (UdtValue v))
  udt_range = subst (λ (x : Values). AreInRange x) (sym (udt_is v)) (r, tt)

pub map_range : (v : Vec (Value × Value) Global) → AreInRange (listed_pairs v.items) → AreInRange (value_of (MapValue v))
map_range v r = subst (λ (x : Values). AreInRange x) (sym (map_is v)) (r, tt)
