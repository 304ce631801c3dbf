use Rattle.cqlp_observer.proofs.Counted.{stays_within}
use Rattle.cqlp_observer.proofs.laws.room.Goals as goal

pub returns : goal.returns
returns c = stays_within
