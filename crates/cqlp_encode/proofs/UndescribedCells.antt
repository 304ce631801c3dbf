-- Cells of types that the caller names.
use Rattle.std.proofs.Common.{◌≡◌, ◌&&◌, ◌<◌, ℕ, zero, suc, Bool, true, false, List, Option, Some, None, refl, sym, ◌∙◌}
use Rattle.std.specs.Prelude.{is_none}
use Rattle.cqlp_kind.specs.declared.kind.Kind.TheVariants as kind
use Rattle.cqlp_kind.specs.Types.{Types, NoMore, Type_and, is_kind}
use Rattle.cqlp_type.specs.declared.tree.TypeTree.{TypeTree}
use Rattle.cqlp_type.specs.Trees.{kind_in, types_in}
use Rattle.cqlp_type.specs.TypeTrees.{head_of, inner_of}
use Rattle.cqlp_value.specs.declared.value.Value.{Value}
use Rattle.cqlp_value.specs.Measures.{fits_tree}
use Rattle.cqlp_value.specs.Owned.{value_of}
use Rattle.cqlp_value.specs.Values.{Values, value_fits}
use Rattle.cqlp_value.proofs.ScalarsWritten.{both_true}
use Rattle.cqlp_message.specs.FrameValues as frame
use Rattle.cqlp_message.specs.FrameValues.{FrameValue, Message, Spec}
use Rattle.cqlp_message.specs.Bodies.{types_described}
use Rattle.cqlp_message.specs.Pages.{page_columns, types_of_page, fits_column}
use Rattle.cqlp_message.proofs.PageColumns.{fits_raw}
use Rattle.cqlp_encode.specs.Binding.{raw_written}
use Rattle.cqlp_encode.specs.PageWriting.{PageState, page, After}
use Rattle.cqlp_encode.specs.PagePlaces.{IsPlace, Represents}
use Rattle.cqlp_encode.specs.UndescribedPages.{cell_of, fits_undescribed, no_cell}
use Rattle.cqlp_encode.proofs.Bindings.{raw_bytes, raw_fits, raw_size}
use Rattle.cqlp_encode.proofs.PageSteps.{fits_next}

-- no cell is of no column
no_type : (b : Bool) → ((b && false) && true) ≡ false
no_type true = refl
no_type false = refl

no_cell_fits : (ts : Types) (i : ℕ) → fits_column ts i no_cell ≡ false
no_cell_fits NoMore i = refl
no_cell_fits (Type_and k inner others) zero = no_type (is_kind kind.Raw k)
no_cell_fits (Type_and k inner others) (suc i) = no_cell_fits others i

-- where columns are not described, a cell of any type is one of each column
none_described : (columns : ℕ) (specs : Option (List Spec)) (i : ℕ) (v : Values) → is_none specs ≡ true → i < columns → value_fits kind.Raw NoMore v ≡ true → fits_column (types_described columns specs) i v ≡ true
none_described columns None i v none lt fits = fits_raw columns i v lt ∙ fits
none_described columns (Some specs) i v none lt fits = absurd cc

raw_column : (m : Message) (v : Value) (t : TypeTree) (i : ℕ) → fits_undescribed m v t ≡ true → i < page_columns m → fits_column (types_of_page m) i (raw_written (value_of v)) ≡ true
raw_column (frame.Rows p) v t i fits lt =
    let both = both_true (is_none p.meta.specs) (fits_tree v t) fits in
    none_described p.meta.columns p.meta.specs i _ both.0 lt (raw_fits (kind_in (head_of t)) (types_in (inner_of t)) (value_of v) both.1)
raw_column m v t i fits lt = absurd cc

cell_fit : (f : FrameValue) (v : Value) (t : TypeTree) → fits_undescribed f.message v t ≡ true → cell_of f v t ≡ raw_written (value_of v)
cell_fit f v t e = rw e refl

cell_unfit : (f : FrameValue) (v : Value) (t : TypeTree) → fits_undescribed f.message v t ≡ false → cell_of f v t ≡ no_cell
cell_unfit f v t e = rw e refl

-- the value represents the cell that its content is
pub fits_undescribed_place : (p : PageState) (at : ℕ) (v : Value) (t : TypeTree) (fits : Bool) → IsPlace p at → fits ≡ fits_undescribed (page p).message v t → (n : ℕ) (cells : List Values) → After p n cells
    → Represents p cells fits (value_of v) (cell_of (page p) v t)
fits_undescribed_place p at v t true place is n cells a = rw (cell_fit (page p) v t (sym is)) (record {
  fit = λ some. fits_next p at _ place some n cells a ∙ raw_column (page p).message v t at (sym is) (place.column some);
  size = λ e. raw_size v;
  bytes = λ e. raw_bytes v;
})
fits_undescribed_place p at v t false place is n cells a = rw (cell_unfit (page p) v t (sym is)) (record {
  fit = λ some. fits_next p at _ place some n cells a ∙ no_cell_fits (types_of_page (page p).message) at;
  size = λ e. absurd cc;
  bytes = λ e. absurd cc;
})
