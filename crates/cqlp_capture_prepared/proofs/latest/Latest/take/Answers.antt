use Rattle.std.proofs.Common.{sym, ap, ◌∙◌, Some}
use Rattle.cqlp_capture_prepared.specs.Latest.{latest}
use Rattle.cqlp_capture_prepared.proofs.Places.{not_placed, placed}
use Rattle.cqlp_capture_prepared.proofs.latest.Latest.take.Goals as goal

pub returns-in_err-at-clause-value : goal.returns-in_err-at-clause-value
returns-in_err-at-clause-value g c = c.from_residual.ensures ∙ sym (not_placed (g.K.PartialEq.eq c.args.key.now) c.args.self.now.entries (sym c.in_err-at.ensures)).value

pub returns-in_err-at-clause-others : goal.returns-in_err-at-clause-others
returns-in_err-at-clause-others g c =
    ap (latest c.args.self.now.limit) (sym (not_placed (g.K.PartialEq.eq c.args.key.now) c.args.self.now.entries (sym c.in_err-at.ensures)).stays)

pub returns-clause-value : goal.returns-clause-value
returns-clause-value g c =
    let at = rw (← c.self.view_is) at (sym c.in_ok-at.ensures) in
    rw (← c.self.view_is) (ap (λ e. Some e.1) c.remove-value.ensures.value ∙ sym (placed (g.K.PartialEq.eq c.args.key.now) c.self.inside.entries.items c.in_ok-at.at c.remove-value.result at).value)

pub returns-clause-others : goal.returns-clause-others
returns-clause-others g c =
    let at = rw (← c.self.view_is) at (sym c.in_ok-at.ensures) in
    rw (← c.self.view_is) (ap (latest c.self.inside.limit) (c.remove-value.ensures.items ∙ sym (placed (g.K.PartialEq.eq c.args.key.now) c.self.inside.entries.items c.in_ok-at.at c.remove-value.result at).others))
