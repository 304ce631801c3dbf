use Rattle.cqlp_observer.proofs.Once.{reports_each_message}
use Rattle.cqlp_observer.proofs.laws.each_message.Goals as goal

pub returns : goal.returns
returns g c = reports_each_message _
