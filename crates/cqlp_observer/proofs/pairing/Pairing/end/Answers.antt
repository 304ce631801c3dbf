use Rattle.std.proofs.Common.{List, subst, sym}
use Rattle.cqlp_observer.specs.declared.message.Message.{Message}
use Rattle.cqlp_observer.proofs.Places.{IsOrdered, ordered_drop}
use Rattle.cqlp_observer.proofs.pairing.Pairing.end.Goals as goal

pub invariant_of-self : goal.invariant_of-self
invariant_of-self g c =
    subst (λ (ys : List (Message g.row.T.Denot)). IsOrdered ys) (sym c.pop_front.ensures.rest) (ordered_drop c.self.inside.waiting.items c.self.invariant)
