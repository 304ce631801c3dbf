use Rattle.std.proofs.Common.{ap, ◌∙◌}
use Rattle.cqlp_text.proofs.Writing.{passes_direct}
use Rattle.cqlp_text.proofs.line_pen.LinePen.pass_on.Goals as goal

pub returns : goal.returns
returns g c = rw (← c.self.view_is) (passes_direct _ _ _ _ _ _ _ c.send.result (ap (λ w. w.waiting) c.self.view_is ∙ c.requires) c.send.ensures)
