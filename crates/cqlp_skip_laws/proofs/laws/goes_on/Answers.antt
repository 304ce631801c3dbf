use Rattle.cqlp_skip_laws.proofs.Once.{stay}
use Rattle.cqlp_skip_laws.proofs.laws.goes_on.Goals as goal

pub returns : goal.returns
returns c = stay
