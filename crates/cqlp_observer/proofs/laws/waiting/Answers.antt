use Rattle.cqlp_observer.proofs.Conformed.{keeps}
use Rattle.cqlp_observer.proofs.laws.waiting.Goals as goal

pub returns : goal.returns
returns g c = keeps _
