use Rattle.cqlp_encode.proofs.Bindings.{bound_bytes, raw_bytes}
use Rattle.cqlp_encode.proofs.laws.bound_is_as_written.Goals as goal

pub returns : goal.returns
returns c v = (bound_bytes v, raw_bytes v)
