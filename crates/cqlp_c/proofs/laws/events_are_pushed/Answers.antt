use Rattle.cqlp_c.proofs.Cored.{pushed}
use Rattle.cqlp_c.proofs.laws.events_are_pushed.Goals as goal

pub returns : goal.returns
returns c = λ length flags h core is. pushed length flags h core is
