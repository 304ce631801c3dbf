use Rattle.cqlp_observer.proofs.Conformed.{reports}
use Rattle.cqlp_observer.proofs.laws.exchanges.Goals as goal

pub returns : goal.returns
returns g c = reports _
