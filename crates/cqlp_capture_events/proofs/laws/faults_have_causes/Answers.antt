use Rattle.cqlp_capture_events.proofs.Causes.{events_causes}
use Rattle.cqlp_capture_events.proofs.laws.faults_have_causes.Goals as goal

pub returns : goal.returns
returns c = events_causes
