use Rattle.cqlp_observer_laws.proofs.Begun.{comes_last}
use Rattle.cqlp_observer_laws.proofs.fronts.front_comes_last.Goals as goal

pub returns : goal.returns
returns c = comes_last
