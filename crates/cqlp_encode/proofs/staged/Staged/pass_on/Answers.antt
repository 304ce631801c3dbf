use Rattle.std.proofs.Common.{ap, ◌∙◌}
use Rattle.cqlp_encode.proofs.Taking.{passes, drops}
use Rattle.cqlp_encode.proofs.staged.Staged.pass_on.Goals as goal

pub returns-then-not-self : goal.returns-then-not-self
returns-then-not-self g c =
    let none = ap (λ w. w.waiting) c.self.view_is ∙ c.requires.none in
    rw (← c.self.view_is) (passes _ _ _ _ _ _ _ _ _ _ _ c.offer_after-count.result _ _ c.if-not-self.true none none c.requires.many c.saturating_add-self-inside.ensures c.saturating_sub-self-inside.ensures c.offer_after-count.ensures.continued c.offer_after-count.ensures.writes)

pub returns-else-not-self : goal.returns-else-not-self
returns-else-not-self g c = rw (← c.self.view_is) (drops _ _ _ c.if-not-self.false)
