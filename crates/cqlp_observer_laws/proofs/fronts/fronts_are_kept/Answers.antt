use Rattle.cqlp_observer_laws.proofs.Begun.{are_kept}
use Rattle.cqlp_observer_laws.proofs.fronts.fronts_are_kept.Goals as goal

pub returns : goal.returns
returns c = are_kept
