-- A caller's values by the vectors in them.
use Rattle.std.proofs.Common.{◌≡◌, ℕ, suc, List, [], ◌∷◌, length, refl, ap, ◌∙◌}
use Rattle.std.specs.declared.vec.Vec.{Vec}
use Rattle.std.specs.declared.alloc.Global.{Global}
use mathlib.Core.Former.{Count}
use Rattle.cqlp_kind.specs.declared.kind.Kind.{Kind}
use Rattle.cqlp_kind.specs.declared.kind.Kind.TheVariants as kind
use Rattle.cqlp_value.specs.declared.value.Value.{Value, Null, Empty, Leaf, List as ListValue, Map, Set, Tuple, Udt, List', Map', Set', Tuple', Udt', Row_of-Value, end_of-Value, more_of-Value, items-the_row-Value, items_hidden-the_row-Value-0, Row_of-Value-Map-0-2, end_of-Value-Map-0-2, more_of-Value-Map-0-2, items-the_row-Value-Map-0-2, items_hidden-the_row-Value-Map-0-2-1}
use Rattle.cqlp_value.specs.Values.{Values, NoValue, Counted_and, Fields_and, values_in}
use Rattle.cqlp_value.specs.Owned.{value_and, value_of, row_of, pairs_of, pairs_in}
use Rattle.cqlp_value.specs.Measures.{listed_values, listed_pairs}

one_more : (v : Value) (vs : Values) → values_in (value_and v vs) ≡ suc (values_in vs)
one_more Null vs = refl
one_more Empty vs = refl
one_more (Leaf a) vs = refl
one_more (List' shape items) vs = refl
one_more (Map' shape pairs) vs = refl
one_more (Set' shape items) vs = refl
one_more (Tuple' shape items) vs = refl
one_more (Udt' shape items) vs = refl

pub many_values : (vs : List Value) → values_in (listed_values vs) ≡ length vs
many_values [] = refl
many_values (v ∷ vs) = one_more v (listed_values vs) ∙ ap suc (many_values vs)

row_listed : (m : _) (row : Row_of-Value m) → row_of row ≡ listed_values (items-the_row-Value m row)
row_listed _ end_of-Value = refl
row_listed _ (more_of-Value v rest) = ap (value_and v) (row_listed _ rest)

pairs_listed : (m : _) (row : Row_of-Value-Map-0-2 m) → pairs_of row ≡ listed_pairs (items-the_row-Value-Map-0-2 m row)
pairs_listed _ end_of-Value-Map-0-2 = refl
pairs_listed _ (more_of-Value-Map-0-2 key value rest) = ap (λ (vs : Values). value_and key (value_and value vs)) (pairs_listed _ rest)

pairs_counted : (m : _) (row : Row_of-Value-Map-0-2 m) → pairs_in row ≡ length (items-the_row-Value-Map-0-2 m row)
pairs_counted _ end_of-Value-Map-0-2 = refl
pairs_counted _ (more_of-Value-Map-0-2 key value rest) = ap suc (pairs_counted _ rest)

abbrev row_in : Value → (n : Count) × Row_of-Value n
row_in (List' shape row) = (_, row)
row_in (Set' shape row) = (_, row)
row_in (Tuple' shape row) = (_, row)
row_in (Udt' shape row) = (_, row)
row_in v = (_, end_of-Value)

abbrev pair_row_in : Value → (n : Count) × Row_of-Value-Map-0-2 n
pair_row_in (Map' shape row) = (_, row)
pair_row_in v = (_, end_of-Value-Map-0-2)

counted_same : (k : Kind) (vs : Values) (xs : List Value) → vs ≡ listed_values xs → Counted_and k (values_in vs) vs NoValue ≡ Counted_and k (length xs) (listed_values xs) NoValue
counted_same k vs xs e = rw (e, many_values xs) refl

module _ (v : Vec Value Global) where
  pub list_is : value_of (ListValue v) ≡ Counted_and kind.List (length v.items) (listed_values v.items) NoValue
  list_is = let row = row_in (ListValue v) in counted_same kind.List (row_of row.1) v.items (row_listed row.0 row.1 ∙ ap listed_values (items_hidden-the_row-Value-0 v))

  pub set_is : value_of (Set v) ≡ Counted_and kind.Set (length v.items) (listed_values v.items) NoValue
  set_is = let row = row_in (Set v) in counted_same kind.Set (row_of row.1) v.items (row_listed row.0 row.1 ∙ ap listed_values (items_hidden-the_row-Value-0 v))

  pub tuple_is : value_of (Tuple v) ≡ Fields_and kind.Tuple (listed_values v.items) NoValue
  tuple_is = let row = row_in (Tuple v) in ap (λ (vs : Values). Fields_and kind.Tuple vs NoValue) (row_listed row.0 row.1 ∙ ap listed_values (items_hidden-the_row-Value-0 v))

  pub udt_is : value_of (Udt v) ≡ Fields_and kind.Udt (listed_values v.items) NoValue
  udt_is = let row = row_in (Udt v) in ap (λ (vs : Values). Fields_and kind.Udt vs NoValue) (row_listed row.0 row.1 ∙ ap listed_values (items_hidden-the_row-Value-0 v))

pub map_is : (v : Vec (Value × Value) Global) → value_of (Map v) ≡ Counted_and kind.Map (length v.items) (listed_pairs v.items) NoValue
map_is v =
    let row = pair_row_in (Map v) in
    let hidden = items_hidden-the_row-Value-Map-0-2-1 v in
    let count = pairs_counted row.0 row.1 ∙ ap length hidden in
    let items = pairs_listed row.0 row.1 ∙ ap listed_pairs hidden in
    ap (λ (n : ℕ). Counted_and kind.Map n (pairs_of row.1) NoValue) count ∙ ap (λ (vs : Values). Counted_and kind.Map (length v.items) vs NoValue) items
