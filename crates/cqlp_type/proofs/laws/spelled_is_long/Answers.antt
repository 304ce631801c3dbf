use Rattle.std.proofs.Common.{false}
use Rattle.cqlp_type.proofs.Lengths.{spelled_long}
use Rattle.cqlp_type.proofs.laws.spelled_is_long.Goals as goal

pub returns : goal.returns
returns c = spelled_long false
