use Rattle.cqlp_c.proofs.There.{lie_there}
use Rattle.cqlp_c.proofs.laws.contents_lie_there.Goals as goal

pub returns : goal.returns
returns c = lie_there
