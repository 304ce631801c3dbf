use Rattle.cqlp_laws.proofs.Cuts.{free_refuses}
use Rattle.cqlp_laws.proofs.limits.free_has_no_limit.Goals as goal

pub returns : goal.returns
returns c = free_refuses
