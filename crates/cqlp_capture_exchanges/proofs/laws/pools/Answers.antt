use Rattle.cqlp_capture_exchanges.proofs.Pooled.{keeps_pools}
use Rattle.cqlp_capture_exchanges.proofs.laws.pools.Goals as goal

pub returns : goal.returns
returns c = keeps_pools
