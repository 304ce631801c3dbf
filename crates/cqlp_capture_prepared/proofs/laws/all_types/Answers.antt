use Rattle.cqlp_capture_prepared.proofs.Whole.{all}
use Rattle.cqlp_capture_prepared.proofs.laws.all_types.Goals as goal

pub returns : goal.returns
returns c = all
