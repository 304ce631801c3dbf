use Rattle.std.proofs.Common.{◌≡◌, None, sym, ◌∙◌, arith}
use Rattle.cqlp_message.specs.Owned.{frame_of}
use Rattle.cqlp_message.specs.Pages.{page_unfit_of}
use Rattle.cqlp_encode.proofs.Measured.{measures_all, measures_number, measures_page, measures_past, measures_same, measures_type}
use Rattle.cqlp_encode.proofs.tally.Tally.measure.Goals as goal
use Rattle.cqlp_encode.proofs.tally.Tally.measure.Goals.{then-self-via-then-self, then-self-via-else-self+then-self-cells_wanted}

pub returns-in-Some : goal.returns-in-Some
returns-in-Some c f cells =
    measures_same c.args.self.now _ cells (λ h.
    measures_page (frame_of c.args.self.now.frame.now) cells c.args.self.now c.min-len.result h (omega (arith, c.min-len.ensures, c.from.ensures)) c.in-Some.why (sym c.in-Some.ensures.is)) f

pub returns-then-self : goal.returns-then-self
returns-then-self c f cells =
    let t = c.args.self.now in
    let page = frame_of t.frame.now in
    let none : page_unfit_of page c.min-len.result ≡ None = sym c.page_unfit.ensures.is ∙ c.in_default.is in
    measures_same t _ cells (λ h. elim c.then-self.branch [
      | then-self-via-then-self w ↦ measures_past page cells t c.min-len.result h (omega (arith, c.min-len.ensures, c.from.ensures)) none w.if-self.true
      | then-self-via-else-self+then-self-cells_wanted w ↦ measures_number page cells t c.min-len.result h (omega (arith, c.min-len.ensures, c.from.ensures)) none w.if-self.false (λ e. w.if-self-cells_wanted.true (e ∙ sym w.cells_wanted.ensures))
    ]) f

pub returns-then-not-self : goal.returns-then-not-self
returns-then-not-self c f cells =
    let t = c.args.self.now in
    let page = frame_of t.frame.now in
    let none : page_unfit_of page c.min-len.result ≡ None = sym c.page_unfit.ensures.is ∙ c.in_default.is in
    measures_same t _ cells (λ h. measures_type page cells t c.min-len.result h (omega (arith, c.min-len.ensures, c.from.ensures)) none c.if-self.false (c.if-self-cells_wanted.false ∙ c.cells_wanted.ensures) c.if-not-self.true) f

pub returns : goal.returns
returns c f cells =
    let t = c.args.self.now in
    let page = frame_of t.frame.now in
    let none : page_unfit_of page c.min-len.result ≡ None = sym c.page_unfit.ensures.is ∙ c.in_default.is in
    measures_same t _ cells (λ h. measures_all page cells t c.min-len.result h (omega (arith, c.min-len.ensures, c.from.ensures)) none c.if-self.false (c.if-self-cells_wanted.false ∙ c.cells_wanted.ensures) c.if-not-self.false) f
