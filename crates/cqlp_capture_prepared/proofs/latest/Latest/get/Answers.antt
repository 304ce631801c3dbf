use Rattle.std.proofs.Common.{refl, sym, ap, ◌∙◌, Some}
use Rattle.cqlp_capture_prepared.proofs.Places.{not_placed, placed}
use Rattle.cqlp_capture_prepared.proofs.latest.Latest.get.Goals as goal

pub returns-in_err-at : goal.returns-in_err-at
returns-in_err-at g c =
    let none = (not_placed (g.K.PartialEq.eq c.args.key.now) c.args.self.now.entries (sym c.in_err-at.ensures)).value in
    rw (c.from_residual.ensures, none) refl

pub returns : goal.returns
returns g c =
    let at = rw (← c.self.view_is) at (sym c.in_ok-at.ensures) in
    rw (← c.self.view_is) (ap (λ e. Some e.1) c.index.ensures ∙ sym (placed (g.K.PartialEq.eq c.args.key.now) c.self.inside.entries.items c.in_ok-at.at c.index.result.now at).value)
