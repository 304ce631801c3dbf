-- The fit, the size and the range of lists, sets and maps, by those of their items.
use Rattle.std.proofs.Common.{◌≡◌, ℕ, ◌+◌, ◌-◌, ◌^◌, Bool, true, false, ◌&&◌, ltb, length, is_some, min, arith}
use Rattle.std.specs.Prelude.{Option, Some, None, IfSome}
use Rattle.std.specs.declared.vec.Vec.{Vec}
use Rattle.std.specs.declared.boxed.Box.{Box}
use Rattle.std.specs.declared.alloc.Global.{Global}
use Rattle.cqlp_type.specs.declared.tree.TypeTree.{TypeTree, List as ListTree, Set as SetTree, Map as MapTree}
use Rattle.cqlp_value.specs.declared.value.Value.{Value, List as ListValue, Set as SetValue, Map as MapValue}
use Rattle.cqlp_value.specs.Measures.{all_fit, all_pairs_fit, fits_tree}
use Rattle.cqlp_value.proofs.ValueFits.{list_fits, set_fits, map_fits}

pub list_fits_in : (v : Vec Value Global) (inner : Box TypeTree Global) → fits_tree (ListValue v) (ListTree inner) ≡ (ltb (length v.items) (2 ^ 31) && all_fit inner.value v.items)
list_fits_in v inner = list_fits v (ListTree inner)

pub set_fits_in : (v : Vec Value Global) (inner : Box TypeTree Global) → fits_tree (SetValue v) (SetTree inner) ≡ (ltb (length v.items) (2 ^ 31) && all_fit inner.value v.items)
set_fits_in v inner = set_fits v (SetTree inner)

pub map_fits_in : (v : Vec (Value × Value) Global) (keys values : Box TypeTree Global) → fits_tree (MapValue v) (MapTree keys values) ≡ (ltb (length v.items) (2 ^ 31) && all_pairs_fit keys.value values.value v.items)
map_fits_in v keys values = map_fits v (MapTree keys values)

both_none : (b : Bool) → true ≡ (b && false) → ⊥
both_none true e = cc
both_none false e = cc

-- a collection has a size where its items have one and a count says so many
module _ (b : Bool) where
  pub counted_range : {P Q : Type 0} (items whole : Option ℕ) → is_some whole ≡ (b && is_some items) → (P → Q) → IfSome items (λ _. P) → IfSome whole (λ _. Q)
  counted_range (Some n) (Some size) fits to p = to p
  counted_range (Some n) None fits to p = tt
  counted_range None None fits to p = tt
  counted_range None (Some size) fits to p = absurd (both_none b fits)

  pub counted_size : (items whole : Option ℕ) (inner n : ℕ) → is_some whole ≡ (b && is_some items) → n ≡ inner + 8 → IfSome items (λ size. size ≡ min inner (2 ^ 64 - 1)) → IfSome items (λ size. IfSome whole (λ s. s ≡ min (size + 8) (2 ^ 64 - 1))) → IfSome whole (λ s. s ≡ min n (2 ^ 64 - 1))
  counted_size (Some size) (Some s) inner n fits is of_items of_whole = omega arith
  counted_size (Some size) None inner n fits is of_items of_whole = tt
  counted_size None None inner n fits is of_items of_whole = tt
  counted_size None (Some s) inner n fits is of_items of_whole = absurd (both_none b fits)
