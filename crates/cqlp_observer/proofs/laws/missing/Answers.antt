use Rattle.cqlp_observer.proofs.Lost.{counts}
use Rattle.cqlp_observer.proofs.laws.missing.Goals as goal

pub returns : goal.returns
returns g c = counts _
