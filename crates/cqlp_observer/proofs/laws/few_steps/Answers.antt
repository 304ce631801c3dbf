use Rattle.cqlp_observer.proofs.Few.{takes_few}
use Rattle.cqlp_observer.proofs.laws.few_steps.Goals as goal

pub returns : goal.returns
returns c = takes_few
