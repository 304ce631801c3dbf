use Rattle.cqlp_capture_prepared.proofs.Reported.{no_others}
use Rattle.cqlp_capture_prepared.proofs.laws.no_other_types.Goals as goal

pub returns : goal.returns
returns c = no_others
