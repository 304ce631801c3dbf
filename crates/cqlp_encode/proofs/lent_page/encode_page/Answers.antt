use Rattle.std.proofs.Common.{ℕ, List, [], false, None, Err, refl, sym, subst, ◌≡◌}
use Rattle.cqlp_note.specs.Outputs.{written}
use Rattle.cqlp_value.specs.Values.{Values}
use Rattle.cqlp_message.specs.Owned.{frame_of}
use Rattle.cqlp_message.specs.Pages.{cells_size, page_unfit_of}
use Rattle.cqlp_encode.specs.declared.lent_page.LentError.{LentError}
use Rattle.cqlp_encode.specs.LentCells.{EncodesLent, cells_of, lent_unfit_of}
use Rattle.cqlp_encode.proofs.Measured.{err_of, ok_of}
use Rattle.cqlp_encode.proofs.Fronts.{are_cells}
use Rattle.cqlp_encode.proofs.LentPages.{head_cut, lent_again}
use Rattle.cqlp_encode.proofs.lent_page.encode_page.Goals as goal

pub returns-in-Err : goal.returns-in-Err
returns-in-Err g c =
    let m = c.in-Err.ensures in
    let cells : List Values = cells_of m.0 in
    (m.0, [], false, m.1, (c.args.again, refl, λ e. absurd cc), (err_of (lent_unfit_of (frame_of c.args.frame.now) cells) (cells_size cells) c.in-Err.why m.2, refl, refl))

pub returns-in-Ok-begin : goal.returns-in-Ok-begin
returns-in-Ok-begin g c =
    let m = c.in-Ok.ensures in
    let w = c.write_cells.ensures in
    let cells : List Values = cells_of m.0 in
    let fits = ok_of (lent_unfit_of (frame_of c.args.frame.now) cells) (cells_size cells) c.in-Ok.len m.2 in (
      m.0,
      w.0,
      w.1,
      m.1,
      w.2,
      lent_again c.args.frame.now c.in-Ok.len c.in-Ok-begin.page _ _ c.in-Ok-begin.ensures.begins cells (cells_of w.0) w.1 c.write_cells.result _ fits.0 fits.1 (w.3 c.in-Ok.len c.in-Ok-begin.ensures.begins.2),
    )

pub returns-in-Err-begin : goal.returns-in-Err-begin
returns-in-Err-begin g c =
    let m = c.in-Ok.ensures in
    let cells : List Values = cells_of m.0 in
    let fits = ok_of (lent_unfit_of (frame_of c.args.frame.now) cells) (cells_size cells) c.in-Ok.len m.2 in
    let begins : page_unfit_of (frame_of c.args.frame.now) c.in-Ok.len ≡ None = subst (λ (k : ℕ). page_unfit_of (frame_of c.args.frame.now) k ≡ None) fits.1 (are_cells (frame_of c.args.frame.now) cells fits.0).begins in (
      m.0,
      [],
      false,
      m.1,
      (c.args.again, refl, λ e. absurd cc),
      subst (λ (x : LentError). EncodesLent (frame_of c.args.frame.now) cells [] false (written g.W.Target c.args.target.now) (Err x) (written g.W.Target c.begin.new.target)) (sym c.lent_error.ensures)
          (head_cut c.args.frame.now c.in-Ok.len cells c.in-Err-begin.why false _ _ fits.0 begins fits.1 c.in-Err-begin.ensures.begins),
    )
