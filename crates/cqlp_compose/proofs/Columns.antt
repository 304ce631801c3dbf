-- The types of a page's columns.
use Rattle.std.proofs.Common.{◌≡◌, ℕ, zero, suc, ◌<◌, ◌≤◌, List, [], ◌∷◌, map, length, true, Option, None, Some, refl, sym, ap, arith}
use Rattle.std.proofs.Common.{Vec, Global}
use Rattle.std.specs.Prelude.{get_or}
use Rattle.std.proofs.lemmas.List.{length-map}
use Rattle.cqlp_kind.specs.declared.kind.Kind.{Kind}
use Rattle.cqlp_kind.specs.Types.{Types, NoMore, Type_and, how_many}
use Rattle.cqlp_value.specs.Owned.{cell_type}
use Rattle.cqlp_message.specs.Agreement.{message_agrees, metadata_agrees}
use Rattle.cqlp_message.specs.Bodies.{cell_types, column_types}
use Rattle.cqlp_message.specs.Owned.{message_of, metadata_of, spec_of}
use Rattle.cqlp_message.specs.Pages.{page_columns, types_of_page}
use Rattle.cqlp_message.specs.declared.message.Message.{Message}
use Rattle.cqlp_message.specs.declared.message.Message.TheVariants as message
use Rattle.cqlp_message.specs.declared.response.Metadata.{Metadata}
use Rattle.cqlp_message.specs.declared.response.Spec.{Spec}
use Rattle.cqlp_build.specs.Productions.{column_type}
use Rattle.cqlp_build.proofs.Columns.{readable, undescribed_column}
use Rattle.cqlp_compose.specs.Places.{type_at, type_if, type_in}

pub type_some : (cs : List Spec) (i : ℕ) (s : Spec) → s ≡ get_or cs i s → i < length cs → type_at cs i ≡ Some s.tree
type_some [] i s h lt = absurd (omega (arith, lt))
type_some (c ∷ cs) zero s h lt = ap (λ (x : Spec). Some x.tree) (sym h)
type_some (c ∷ cs) (suc i) s h lt = type_some cs i s h (omega (arith, lt))

pub type_none : (cs : List Spec) (i : ℕ) → length cs ≤ i → type_at cs i ≡ None
type_none [] i le = refl
type_none (c ∷ cs) zero le = absurd (omega (arith, le))
type_none (c ∷ cs) (suc i) le = type_none cs i (omega (arith, le))

-- ---- as the message describes them

described_at : (cs : List Spec) (i : ℕ) → i < length cs → cell_type (type_at cs i) ≡ column_type i (column_types (map spec_of cs))
described_at [] i lt = absurd (omega (arith, lt))
described_at (c ∷ cs) zero lt = refl
described_at (c ∷ cs) (suc i) lt = described_at cs i (omega (arith, lt))

in_metadata : (m : Metadata) (i : ℕ) → metadata_agrees (metadata_of m) ≡ true → i < m.columns → cell_type (type_if m.specs i) ≡ column_type i (cell_types (metadata_of m))
in_metadata m i e lt = by_specs m.specs refl
  where
    by_specs : (o : Option (Vec Spec Global)) → m.specs ≡ o → cell_type (type_if m.specs i) ≡ column_type i (cell_types (metadata_of m))
    by_specs None is = rw is (sym (undescribed_column (metadata_of (record m { specs = None })) i refl lt))
    by_specs (Some cs) is =
        let many : length (map spec_of cs.items) ≡ m.columns = (readable (metadata_of m) e (map spec_of cs.items) (rw is refl)).0 in
        rw is (described_at cs.items i (omega (arith, lt, many, length-map cs.items spec_of)))

pub type_is : (m : Message) (i : ℕ) → message_agrees (message_of m) ≡ true → i < page_columns (message_of m) → cell_type (type_in m i) ≡ column_type i (types_of_page (message_of m))
type_is (message.Rows p) i e lt = in_metadata p.meta i e lt
type_is m i e lt = absurd (omega (arith, lt))

-- each column has a type
pub column_is : (ts : Types) (i : ℕ) → i < how_many ts → (k : Kind) × (inner : Types) × (column_type i ts ≡ Type_and k inner NoMore)
column_is NoMore i lt = absurd (omega (arith, lt))
column_is (Type_and k inner ts) zero lt = (k, inner, refl)
column_is (Type_and k inner ts) (suc i) lt = column_is ts i (omega (arith, lt))
