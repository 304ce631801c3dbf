-- Values of a page's columns.
use Rattle.std.proofs.Common.{◌≡◌, Option, Some, None, ℕ, zero, suc, ◌<◌, ◌≤◌, false, List, [], ◌∷◌, length, get_or, map, refl, sym, ap, arith}
use Rattle.cqlp_kind.specs.declared.kind.Kind.TheVariants as kind
use Rattle.cqlp_kind.specs.Types.{Types, NoMore, Type_and, how_many}
use Rattle.cqlp_type.specs.Trees.{types_in}
use Rattle.cqlp_type.specs.TypeTrees.{tree_of}
use Rattle.cqlp_value.specs.Values.{Values, values_fit, value_fits}
use Rattle.cqlp_grammar.specs.Productions.{raw_types}
use Rattle.std.specs.Option.{option_map}
use Rattle.std.specs.declared.alloc.Global.{Global}
use Rattle.std.specs.declared.vec.Vec.{Vec}
use Rattle.cqlp_message.specs.declared.message.Message.{Message}
use Rattle.cqlp_message.specs.declared.message.Message.TheVariants as message
use Rattle.cqlp_message.specs.declared.response.Spec.{Spec}
use Rattle.cqlp_message.specs.Owned.{message_of, spec_of}
use Rattle.cqlp_message.specs.Bodies.{column_types, types_described}
use Rattle.cqlp_message.specs.Pages.{columns_described, fits_column, specs_among, types_of_page}

-- no value is one of a column that is not there
pub fits_none : (ts : Types) (i : ℕ) (v : Values) → how_many ts ≤ i → fits_column ts i v ≡ false
fits_none NoMore i v le = refl
fits_none (Type_and k inner others) zero v le = absurd (omega arith)
fits_none (Type_and k inner others) (suc i) v le = fits_none others i v (omega arith)

pub fits_described : (specs : List Spec) (i : ℕ) (s : Spec) (v : Values) → s ≡ get_or specs i s → i < length specs → fits_column (column_types (map spec_of specs)) i v ≡ values_fit (types_in (tree_of s.tree)) v
fits_described [] i s v e lt = absurd (omega arith)
fits_described (c ∷ specs) zero s v e lt = ap (λ (x : Spec). values_fit (types_in (tree_of x.tree)) v) (sym e)
fits_described (c ∷ specs) (suc i) s v e lt = fits_described specs i s v e (omega arith)

fits_among : (columns : ℕ) (o : Option (Vec Spec Global)) (i : ℕ) (s : Spec) (v : Values) → s ≡ get_or (specs_among o) i s → i < length (specs_among o)
    → fits_column (types_described columns (option_map (λ (cs : Vec Spec Global). map spec_of cs.items) o)) i v ≡ values_fit (types_in (tree_of s.tree)) v
fits_among columns (Some specs) i s v e lt = fits_described specs.items i s v e lt
fits_among columns None i s v e lt = absurd (omega arith)

-- a value is one of a column that a page describes, where it is one of that column's type
pub fits_spec : (m : Message) (i : ℕ) (s : Spec) (v : Values) → s ≡ get_or (columns_described m) i s → i < length (columns_described m)
    → fits_column (types_of_page (message_of m)) i v ≡ values_fit (types_in (tree_of s.tree)) v
fits_spec (message.Rows p) i s v e lt = fits_among p.meta.columns p.meta.specs i s v e lt
fits_spec m i s v e lt = absurd (omega arith)

pub fits_raw : (n i : ℕ) (v : Values) → i < n → fits_column (raw_types n) i v ≡ value_fits kind.Raw NoMore v
fits_raw zero i v lt = absurd (omega arith)
fits_raw (suc n) zero v lt = refl
fits_raw (suc n) (suc i) v lt = fits_raw n i v (omega arith)
