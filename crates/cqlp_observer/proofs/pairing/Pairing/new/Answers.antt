use Rattle.std.proofs.Common.{List, subst, sym}
use Rattle.cqlp_observer.specs.declared.message.Message.{Message}
use Rattle.cqlp_observer.proofs.Places.{IsOrdered, ordered_none}
use Rattle.cqlp_observer.proofs.pairing.Pairing.new.Goals as goal

pub invariant_of-result : goal.invariant_of-result
invariant_of-result g c = subst (λ (ys : List (Message g.row.T.Denot)). IsOrdered ys) (sym c.new.ensures.items) (ordered_none g.row.T.Denot)
