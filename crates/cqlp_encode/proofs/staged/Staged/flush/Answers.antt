use Rattle.std.proofs.Common.{sym, arith}
use Rattle.std.proofs.lemmas.List.{length-take-le}
use Rattle.cqlp_encode.proofs.Taking.{drops_waiting, flushes}
use Rattle.cqlp_encode.proofs.staged.Staged.flush.Goals as goal

pub returns-then-not-self : goal.returns-then-not-self
returns-then-not-self g c =
    let long = sym (length-take-le c.self.inside.len c.self.inside.buffer (omega (arith, c.self.told, c.self.invariant.0))) in
    rw (← c.self.view_is) (flushes _ _ _ _ _ _ _ _ _ c.offer_after-count.result c.self.inside.len _ _ c.if-not-self.true long c.saturating_add-self-inside.ensures c.saturating_sub-self-inside.ensures c.offer_after-count.ensures.continued c.offer_after-count.ensures.writes)

pub returns-else-not-self : goal.returns-else-not-self
returns-else-not-self g c = rw (← c.self.view_is) (drops_waiting _ c.if-not-self.false)
