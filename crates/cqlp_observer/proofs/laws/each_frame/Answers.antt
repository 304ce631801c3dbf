use Rattle.cqlp_observer.proofs.Fed.{reports_each}
use Rattle.cqlp_observer.proofs.laws.each_frame.Goals as goal

pub returns : goal.returns
returns c = reports_each
