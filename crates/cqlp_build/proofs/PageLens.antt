-- How many bytes a frame with a page has, by the size of its cells.
use Rattle.std.proofs.Common.{◌≡◌, ℕ, ◌+◌, ◌*◌, ◌-◌, ◌≤◌, ◌&&◌, Bool, true, false, cond, List, [], length, Option, Some, None, Ok, Err, refl, sym, ap, ◌∙◌, subst, arith}
use Rattle.std.specs.Prelude.{nat_lt, not, Result}
use Rattle.std.specs.List.{list_all}
use Rattle.std.proofs.lemmas.Bool.{eqb-true, le-ltb}
use Rattle.std.proofs.lemmas.List.Folds.{list_all-append}
use Rattle.cqlp_note.specs.declared.header.TheConstants.Header.{LONGEST_BODY}
use Rattle.cqlp_value.specs.Values.{Values}
use Rattle.cqlp_message.specs.declared.unfit.Unfit.{Unfit}
use Rattle.cqlp_message.specs.declared.unfit.Unfit.TheVariants as unfit
use Rattle.cqlp_message.specs.Agreement.{frame_agrees, has_its_cells, is_directed, is_response, message_agrees}
use Rattle.cqlp_message.specs.Bodies.{cell_types, rows_parts}
use Rattle.cqlp_message.specs.FrameValues.{FrameValue, Message, Page, Rows}
use Rattle.cqlp_message.specs.Frames.{frame_parts, frame_size, if_none, measure_of, unfit_of}
use Rattle.cqlp_message.specs.Pages.{AreItsCells, cells_fit, cells_size, cells_wanted, filled, is_bare, page_unfit_of, with_cells}
use Rattle.cqlp_message.specs.Parts.{Part, cell_fits, counts_fit, parts_size, texts_fit}
use Rattle.cqlp_message.proofs.FramesWritten.{is_fit}
use Rattle.cqlp_message.proofs.PageFrames.{cell_parts, front_parts, no_cells_fit, page_size, page_written, parts_bare, parts_with}
use Rattle.cqlp_build.specs.Building.{has_fit_cells}
use Rattle.cqlp_build.specs.CellSizes.{IsCounted, IsSized, measured, without_cells}
use Rattle.cqlp_build.proofs.Several.{both, join}

-- ---- parts

-- a test of all parts of a page with these cells is one of those of the page without them, and of the cells
front_all : (test : Part → Bool) (g : FrameValue) (cells : List Values) → is_bare g.message ≡ true
    → list_all test (frame_parts (with_cells g cells)) ≡ (list_all test (frame_parts g) && list_all test (cell_parts g.message cells))
front_all test g cells bare =
    ap (list_all test) (parts_with g cells) ∙ list_all-append test (front_parts g) (cell_parts g.message cells)
    ∙ ap (λ (ps : List Part). list_all test ps && list_all test (cell_parts g.message cells)) (sym (parts_bare g bare))

-- a page has all its cells, each of its column's type
cells_are : (m : Message) (cells : List Values) → is_bare m ≡ true → has_fit_cells (filled m cells) ≡ true
    → (length cells ≡ cells_wanted m) × (list_all cell_fits (cell_parts m cells) ≡ true)
cells_are (Rows p) cells bare fit =
    let q = both (has_its_cells (filled (Rows p) cells)) (list_all cell_fits (rows_parts 0 (cell_types p.meta) p.rows cells)) fit in
    (eqb-true (length cells) (p.rows * p.meta.columns) q.0, q.1)
cells_are m cells bare fit = absurd cc

same_response : (m : Message) (cells : List Values) → is_response (filled m cells) ≡ is_response m
same_response (Rows p) cells = refl
same_response m cells = refl

same_agreement : (m : Message) (cells : List Values) → message_agrees (filled m cells) ≡ message_agrees m
same_agreement (Rows p) cells = refl
same_agreement m cells = refl

same_directed : (g : FrameValue) (cells : List Values) → is_directed (with_cells g cells) ≡ is_directed g
same_directed g cells = rw (same_response g.message cells) refl

same_agrees : (g : FrameValue) (cells : List Values) → frame_agrees (with_cells g cells) ≡ frame_agrees g
same_agrees g cells = rw (same_response g.message cells, same_agreement g.message cells) refl

none_right : (t : Bool) (u : Unfit) (rest : Option Unfit) → t ≡ false → rest ≡ None → cond t (Some u) rest ≡ None
none_right t u rest e f = rw e f

-- ---- lengths

module _ (g : FrameValue) (n : ℕ) (cells : List Values) (bare : is_bare g.message ≡ true) (fit : has_fit_cells (filled g.message cells) ≡ true) (size : cells_size cells ≡ n) where
  its_cells : page_unfit_of g n ≡ None → AreItsCells g n cells
  its_cells e =
      let a = cells_are g.message cells bare fit in
      let front = both (list_all cell_fits (frame_parts g)) (list_all cell_fits (cell_parts g.message [])) (sym (front_all cell_fits g [] bare) ∙ no_cells_fit g n e) in
      record {
        number = a.0;
        fit = front_all cell_fits g cells bare ∙ join (list_all cell_fits (frame_parts g)) (list_all cell_fits (cell_parts g.message cells)) front.0 a.1;
        size = size;
      }

  whole : page_unfit_of g n ≡ None → measure_of (with_cells g cells) ≡ Ok (frame_size g n)
  whole e =
      let f = with_cells g cells in
      let r = page_written g n cells e (its_cells e) in
      ap (λ o. if_none o (frame_size f 0)) r.0 ∙ ap Ok (sym r.2)

  -- what some bytes spell with its cells can be begun without them
  begun : unfit_of (with_cells g cells) ≡ None → page_unfit_of g n ≡ None
  begun e =
      let t = is_fit (with_cells g cells) e in
      let a = cells_are g.message cells bare fit in
      let directed : is_directed g ≡ true = sym (same_directed g cells) ∙ t.directed in
      let agrees : frame_agrees g ≡ true = sym (same_agrees g cells) ∙ t.agrees in
      let counts = both (list_all counts_fit (frame_parts g)) (list_all counts_fit (cell_parts g.message cells)) (sym (front_all counts_fit g cells bare) ∙ t.counts) in
      let texts = both (list_all texts_fit (frame_parts g)) (list_all texts_fit (cell_parts g.message cells)) (sym (front_all texts_fit g cells bare) ∙ t.texts) in
      let le : length cells ≤ cells_wanted g.message = omega (arith, a.0) in
      let total : parts_size (frame_parts (with_cells g cells)) ≡ parts_size (frame_parts g) + cells_size cells = page_size g cells agrees bare le in
      let short : parts_size (frame_parts g) + n ≤ LONGEST_BODY = omega (arith, t.short, total, size) in
      none_right (not (is_directed g)) unfit.Direction _ (ap not directed)
      (none_right (not (frame_agrees g)) unfit.Parts _ (ap not agrees)
      (none_right (not (list_all counts_fit (frame_parts g))) unfit.TooManyItems _ (ap not counts.0)
      (none_right (not (list_all texts_fit (frame_parts g))) unfit.TextTooLong _ (ap not texts.0)
      (none_right (not (is_bare g.message)) unfit.RowShape _ (ap not bare)
      (none_right (nat_lt LONGEST_BODY (parts_size (frame_parts g) + n)) unfit.BodyTooLong _ (le-ltb LONGEST_BODY (parts_size (frame_parts g) + n) short) refl)))))

  measured_by : (o : Option Unfit) → page_unfit_of g n ≡ o → measured (if_none o (frame_size g n)) ≡ measured (measure_of (with_cells g cells))
  measured_by None e = ap measured (sym (whole e))
  measured_by (Some why) e = refused (unfit_of (with_cells g cells)) refl
    where
      refused : (o : Option Unfit) → unfit_of (with_cells g cells) ≡ o → None ≡ measured (if_none o (frame_size (with_cells g cells) 0))
      refused None d = let c = begun d in absurd cc
      refused (Some y) d = refl

  -- the length of a page without cells, and that of its cells, are together that of the page with them
  pub page_measured : measured (if_none (page_unfit_of g n) (frame_size g n)) ≡ measured (measure_of (with_cells g cells))
  page_measured = measured_by (page_unfit_of g n) refl

-- ---- pages whose cells were taken out

-- a page that gets its cells back is the one that it was
pub refilled : (f : FrameValue) (p : Page) (m : Message) (cells : List Values) → m ≡ Rows (without_cells p) → f.message ≡ Rows p → cells ≡ p.cells
    → with_cells (record f { message = m }) cells ≡ f
refilled f p m cells e is same =
    let message : filled m cells ≡ f.message =
    ap (λ k. filled k cells) e ∙ (ap (λ (vs : List Values). Rows (record { meta = p.meta; rows = p.rows; cells = vs })) same ∙ sym is) in
    λ i. record { flags = f.flags; stream = f.stream; tracing = f.tracing; warnings = f.warnings; payload = f.payload; message = message i }

pub taken_out : (p : Page) (m : Message) → m ≡ Rows (without_cells p) → is_bare m ≡ true
taken_out p m e = ap is_bare e

pub counted : (n : ℕ) (p : Page) (m : Message) → m ≡ Rows p → IsCounted n m → cells_size p.cells ≡ n
counted n p m e c = subst (IsCounted n) e c

-- a size that a body may have is that of all cells
pub short_is_exact : (n : ℕ) (m : Message) → n ≤ LONGEST_BODY → IsSized (Some n) m → IsCounted n m
short_is_exact n (Rows p) le s = omega (arith, le, s)
short_is_exact n m le s = tt

-- ---- what is measured

pub measured_ok : (m : Result ℕ Unfit) (n : ℕ) → Some n ≡ measured m → m ≡ Ok n
measured_ok (Ok k) n e = let d : n ≡ k = cc in ap Ok (sym d)
measured_ok (Err why) n e = absurd cc

pub not_measured : (m : Result ℕ Unfit) → None ≡ measured m → (why : Unfit) × (m ≡ Err why)
not_measured (Ok k) e = absurd cc
not_measured (Err why) e = (why, refl)
