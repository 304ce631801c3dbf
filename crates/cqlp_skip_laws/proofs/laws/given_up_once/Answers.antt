use Rattle.cqlp_skip_laws.proofs.Once.{once}
use Rattle.cqlp_skip_laws.proofs.laws.given_up_once.Goals as goal

pub returns : goal.returns
returns c = once
