use Rattle.cqlp_capture_rows.proofs.Causes.{rows_causes}
use Rattle.cqlp_capture_rows.proofs.laws.faults_have_causes.Goals as goal

pub returns : goal.returns
returns c = rows_causes
