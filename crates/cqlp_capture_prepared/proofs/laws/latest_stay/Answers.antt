use Rattle.cqlp_capture_prepared.proofs.Stays.{keeps}
use Rattle.cqlp_capture_prepared.proofs.laws.latest_stay.Goals as goal

pub returns : goal.returns
returns c = keeps
