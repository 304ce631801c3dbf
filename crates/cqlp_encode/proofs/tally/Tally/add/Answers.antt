use Rattle.std.proofs.Common.{◌≡◌, ◌≢◌, ◌&&◌, ◌%◌, ◌<◌, Bool, ℕ, refl, sym, ap, ◌∙◌, arith}
use Rattle.cqlp_value.specs.Owned.{value_of}
use Rattle.cqlp_message.specs.Owned.{frame_of}
use Rattle.cqlp_message.specs.Pages.{cells_wanted, fits_column, page_columns, types_of_page}
use Rattle.cqlp_encode.proofs.Measured.{and_false, and_true, counts_one, counts_past, counts_same, has_columns}
use Rattle.cqlp_encode.proofs.tally.Tally.add.Goals as goal
use Rattle.cqlp_encode.proofs.tally.Tally.add.Goals.{then-self, else-self}

pub returns-then-self-cells_wanted : goal.returns-then-self-cells_wanted
returns-then-self-cells_wanted c f cells =
    counts_same c.args.self.now _ cells (value_of c.args.cell.now) (λ h.
    counts_past (frame_of c.args.self.now.frame.now) cells (value_of c.args.cell.now) c.args.self.now _ h refl
    (omega (arith, c.saturating_add-self.ensures, c.value_size.ensures.size))
    (c.if-self-cells_wanted.true ∙ c.cells_wanted.ensures) refl refl) f

pub returns : goal.returns
returns c f cells =
    let t = c.args.self.now in
    let page = frame_of t.frame.now in
    let wanted : c.cells_wanted.result ≡ cells_wanted page.message = c.cells_wanted.ensures in
    let other : t.count ≢ cells_wanted page.message = λ e. c.if-self-cells_wanted.false (e ∙ sym wanted) in
    counts_same t _ cells (value_of c.args.cell.now) (λ h.
    let some : 0 < page_columns page.message = has_columns page t.count (omega (arith, h.within, other)) in
    let column : c.column.result ≡ t.count % page_columns page.message = c.column.ensures some in
    let fits : c.fits_column-fits.result ≡ fits_column (types_of_page page.message) (t.count % page_columns page.message) (value_of c.args.cell.now) = c.fits_column-fits.ensures ∙ ap (λ (k : ℕ). fits_column (types_of_page page.message) k (value_of c.args.cell.now)) column in
    let both : c.if-self.self ≡ (t.is_fit && c.fits_column-fits.result) = elim c.if-self.branch [
      | then-self w ↦ and_true t.is_fit c.fits_column-fits.result c.if-self.self w.if-self.true w.self-is
      | else-self w ↦ and_false t.is_fit c.fits_column-fits.result c.if-self.self w.if-self.false (w.self-is ∙ w.if-self.false)
    ] in
    counts_one page cells (value_of c.args.cell.now) t _ h refl
    (omega (arith, c.saturating_add-self.ensures, c.value_size.ensures.size))
    other
    c.saturating_add-self-2.ensures
    (omega (arith, wanted, c.cells_wanted.type_inv))
    refl
    (both ∙ ap (λ (b : Bool). t.is_fit && b) fits)) f
