use Rattle.cqlp_capture_exchanges.proofs.Causes.{exchanges_causes}
use Rattle.cqlp_capture_exchanges.proofs.laws.faults_have_causes.Goals as goal

pub returns : goal.returns
returns c = exchanges_causes
