-- The value of a type without inner types that has one event.
use Rattle.std.proofs.Common.{◌≡◌, ℕ, ◌++◌, ◌&&◌, Bool, true, false, List, [], ◌∷◌, map, refl, sym, ap, ◌∙◌, inl, inr}
use Rattle.cqlp_note.specs.Limits.{Rules}
use Rattle.cqlp_kind.specs.declared.kind.Kind.{Kind}
use Rattle.cqlp_kind.specs.Scalars.{ScalarValue, kind_of, scalar_fits}
use Rattle.cqlp_kind.specs.Types.{Types, NoMore, Type_and, is_kind}
use Rattle.cqlp_kind.specs.CellStep.{CellEvent, Leaf, Null, Empty, Enter, Leave, Part}
use Rattle.cqlp_value.specs.Values.{Values, NoValue, Null_and, Empty_and, Scalar_and, Counted_and, Fields_and, values_fit, values_items}
use Rattle.cqlp_build_cells.specs.Building.{AreEventsOf, IsBuiltOf}
use Rattle.cqlp_build_cells.specs.Said.{values_said}
use Rattle.cqlp_build_cells.proofs.Said.{none_fit}
use Rattle.cqlp_build_cells.proofs.Steps.{both}
use Rattle.cqlp_build_cells.proofs.Whole.{items_said, is_no_part, have_none}

-- limits without parts
abbrev whole_limits : Rules
whole_limits = record { text = 0; cell = 0; entries = 0; depth = 0; part = 0; types = true; parts = false; lenient = false }

abbrev of_kind : Kind → Types
of_kind k = Type_and k NoMore NoMore

abbrev head_event : CellEvent → List CellEvent → CellEvent
head_event d [] = d
head_event d (e ∷ es) = e

abbrev scalar_in_event : ScalarValue → CellEvent → ScalarValue
scalar_in_event d (Leaf level v) = v
scalar_in_event d e = d

module _ (k : Kind) where
  abbrev Fits : Values → Type 0
  Fits w = values_fit (of_kind k) w ≡ true

  said_leaf : (v : ScalarValue) (w : Values) → Fits w → Leaf 0 v ∷ [] ≡ values_said 0 (of_kind k) w → w ≡ Scalar_and v NoValue
  said_leaf v NoValue f s = absurd cc
  said_leaf v (Null_and vs) f s = absurd cc
  said_leaf v (Empty_and vs) f s = absurd cc
  said_leaf v (Counted_and j n items vs) f s = absurd cc
  said_leaf v (Fields_and j items vs) f s = absurd cc
  said_leaf v (Scalar_and u vs) f s =
      let none = none_fit vs (both (is_kind (kind_of u) k && scalar_fits u) (values_fit NoMore vs) f).1 in
      let same : u ≡ v = ap (λ (es : List CellEvent). scalar_in_event v (head_event (Leaf 0 v) es)) (sym s) in
      λ i. Scalar_and (same i) (none i)

  said_null : (w : Values) → Fits w → Null 0 ∷ [] ≡ values_said 0 (of_kind k) w → w ≡ Null_and NoValue
  said_null NoValue f s = absurd cc
  said_null (Scalar_and u vs) f s = absurd cc
  said_null (Empty_and vs) f s = absurd cc
  said_null (Counted_and j n items vs) f s = absurd cc
  said_null (Fields_and j items vs) f s = absurd cc
  said_null (Null_and vs) f s = ap Null_and (none_fit vs f)

  said_empty : (w : Values) → Fits w → Empty 0 ∷ [] ≡ values_said 0 (of_kind k) w → w ≡ Empty_and NoValue
  said_empty NoValue f s = absurd cc
  said_empty (Scalar_and u vs) f s = absurd cc
  said_empty (Null_and vs) f s = absurd cc
  said_empty (Counted_and j n items vs) f s = absurd cc
  said_empty (Fields_and j items vs) f s = absurd cc
  said_empty (Empty_and vs) f s = ap Empty_and (none_fit vs f)

  -- a value that fits, has the event alone, and is the only one so
  built : (e : CellEvent) (v : Values) → is_no_part e ≡ true → Fits v → values_said 0 (of_kind k) v ≡ e ∷ []
      → ((w : Values) → Fits w → e ∷ [] ≡ values_said 0 (of_kind k) w → w ≡ v) → IsBuiltOf (e ∷ []) (of_kind k) v
  built e v whole f said only = record {
    are = record { rules = whole_limits; at = 0; are = items_said whole_limits 0 0 (of_kind k) v (inl refl) ∙ said };
    fits = f;
    only = λ w g a. only w g (sym a.are ∙ items_said a.rules 0 a.at (of_kind k) w (inr (ap have_none a.are ∙ ap (λ (b : Bool). b && true) whole)));
  }

  pub leaf_built : (v : ScalarValue) → Fits (Scalar_and v NoValue) → IsBuiltOf (Leaf 0 v ∷ []) (of_kind k) (Scalar_and v NoValue)
  leaf_built v f = built (Leaf 0 v) (Scalar_and v NoValue) refl f refl (said_leaf v)

  pub null_built : IsBuiltOf (Null 0 ∷ []) (of_kind k) (Null_and NoValue)
  null_built = built (Null 0) (Null_and NoValue) refl refl refl said_null

  pub empty_built : IsBuiltOf (Empty 0 ∷ []) (of_kind k) (Empty_and NoValue)
  empty_built = built (Empty 0) (Empty_and NoValue) refl refl refl said_empty
