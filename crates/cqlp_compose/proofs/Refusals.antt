-- Where no cell of one event is put.
use Rattle.std.proofs.Common.{◌≡◌, ℕ, zero, suc, ◌*◌, ◌/◌, ◌%◌, ◌+◌, ◌^◌, ◌<◌, ◌≤◌, Bool, true, false, List, Option, get_or, refl, sym, ap, ◌∙◌, subst, arith, eq-eqb, le-ltb, lt-ltb}
use Rattle.std.specs.Prelude.{◌&&◌, ◌==◌, nat_lt}
use Rattle.std.proofs.lemmas.Bool.{eqb-true}
use Rattle.cqlp_kind.specs.declared.kind.Kind.{Kind}
use Rattle.cqlp_kind.specs.declared.kind.Kind.TheVariants as kind
use Rattle.cqlp_kind.specs.Types.{Types, NoMore, Type_and, has_no_items, is_plain}
use Rattle.cqlp_kind.specs.CellStep.{Null}
use Rattle.cqlp_type.specs.declared.tree.TypeTree.{TypeTree}
use Rattle.cqlp_grammar.specs.Events.{Cell_at}
use Rattle.cqlp_message.specs.declared.frame.Frame.{Frame}
use Rattle.cqlp_message.specs.FrameValues.{Message, Rows}
use Rattle.cqlp_message.specs.Owned.{frame_of}
use Rattle.cqlp_message.specs.Pages.{cells_wanted, page_columns}
use Rattle.cqlp_compose.specs.declared.put.PutCells.{PutCells}
use Rattle.cqlp_compose.specs.Bare.{AreKindsOf, IsKindAt, IsNoKindAt, after, longest_cell}
use Rattle.cqlp_compose.specs.Cells.{CellsState, begun, is_next, next_column, next_row, page}
use Rattle.cqlp_compose.specs.Places.{described_type}
use Rattle.cqlp_compose.specs.Single.{IsNoNextScalar, IsPlain}

-- ---- kinds

pub plain_has_none : (k : Kind) → is_plain k ≡ true → has_no_items k ≡ true
plain_has_none kind.List e = absurd cc
plain_has_none kind.Map e = absurd cc
plain_has_none kind.Set e = absurd cc
plain_has_none kind.Udt e = absurd cc
plain_has_none kind.Tuple e = absurd cc
plain_has_none k e = refl

kind_first : (d : Kind) → Types → Kind
kind_first d NoMore = d
kind_first d (Type_and k inner others) = k

-- a type has one kind
pub one_kind : (t : Option TypeTree) (j k : Kind) → IsPlain t j → IsPlain t k → j ≡ k
unfolding kind_first
one_kind t j k p q = ap (kind_first j) (sym p.0 ∙ q.0)

-- ---- the place of the next cell

both : (a b : Bool) → (a && b) ≡ true → (a ≡ true) × (b ≡ true)
both true b e = (refl, e)
both false b e = absurd cc

next_at : (s : CellsState) (row column : ℕ) → is_next s (Cell_at row column (Null 0)) ≡ true → (row ≡ next_row s) × (column ≡ next_column s)
next_at s row column e =
    let due = both (nat_lt s.place.cells (cells_wanted (page s).message)) ((row == next_row s) && (column == next_column s)) e in
    let at = both (row == next_row s) (column == next_column s) due.1 in
    (eqb-true _ _ at.0, eqb-true _ _ at.1)

product : (a b : ℕ) → 0 < a * b → 0 < b
product a zero lt = absurd (omega (arith, lt))
product a (suc b) lt = omega arith

some_columns : (m : Message) → 0 < cells_wanted m → 0 < page_columns m
some_columns (Rows p) lt = product p.rows p.meta.columns lt
some_columns m lt = absurd (omega (arith, lt))

-- another place, where cells are still to come
pub not_at : (c : PutCells) (row column columns : ℕ) → c.place.cells < cells_wanted (frame_of c.frame.now).message → columns ≡ page_columns (frame_of c.frame.now).message
    → (0 < columns → row ≡ c.place.cells / columns → column ≡ c.place.cells % columns → false ≡ true) → IsNoNextScalar c row column
not_at c row column columns due is all k n =
    let m = (frame_of c.frame.now).message in
    let at = next_at (begun c.frame.now c.place c.limits) row column n.0.1 in
    let every = subst (λ (w : ℕ). 0 < w → row ≡ c.place.cells / w → column ≡ c.place.cells % w → false ≡ true) is all in
    let clash : false ≡ true = every (some_columns m (omega (arith, due))) at.0 at.1 in
    absurd cc

-- the same, of a page that has no cells yet
pub no_kind_at : (f : Frame) (cells row column columns : ℕ) → cells < cells_wanted (frame_of f).message → columns ≡ page_columns (frame_of f).message
    → (0 < columns → row ≡ cells / columns → column ≡ cells % columns → false ≡ true) → IsNoKindAt f cells row column
no_kind_at f cells row column columns due is all k n =
    let m = (frame_of f).message in
    let at = next_at (begun f (after cells) longest_cell) row column n.0 in
    let every = subst (λ (w : ℕ). 0 < w → row ≡ cells / w → column ≡ cells % w → false ≡ true) is all in
    let clash : false ≡ true = every (some_columns m (omega (arith, due))) at.0 at.1 in
    absurd cc

-- where all cells came
pub no_kind_past : (f : Frame) (cells row column : ℕ) → cells_wanted (frame_of f).message ≤ cells → IsNoKindAt f cells row column
no_kind_past f cells row column le k n =
    let due = both (nat_lt cells (cells_wanted (frame_of f).message)) ((row == next_row (begun f (after cells) longest_cell)) && (column == next_column (begun f (after cells) longest_cell))) n.0 in
    let past : nat_lt cells (cells_wanted (frame_of f).message) ≡ false = le-ltb cells (cells_wanted (frame_of f).message) le in
    let clash : false ≡ true = sym past ∙ due.0 in
    absurd cc

-- the next cell, in the column of which this is the kind
pub kind_there : (f : Frame) (kinds : List Kind) (cells row column columns : ℕ) → cells < cells_wanted (frame_of f).message → cells + 1 < 2 ^ 64 → columns ≡ page_columns (frame_of f).message
    → row ≡ cells / columns → column ≡ cells % columns → AreKindsOf f kinds → IsKindAt f cells row column (get_or kinds column kind.Raw)
kind_there f kinds cells row column columns due few is at_row at_column are =
    let s = begun f (after cells) longest_cell in
    let r : row ≡ next_row s = at_row ∙ ap (λ (w : ℕ). cells / w) is in
    let c : column ≡ next_column s = at_column ∙ ap (λ (w : ℕ). cells % w) is in
    let next : (nat_lt cells (cells_wanted (frame_of f).message) && ((row == next_row s) && (column == next_column s))) ≡ true =
    λ i. lt-ltb cells (cells_wanted (frame_of f).message) due i && (eq-eqb row (next_row s) r i && eq-eqb column (next_column s) c i) in
    (next, few, subst (λ (n : ℕ). IsPlain (described_type f n) (get_or kinds column kind.Raw)) c (are column))
