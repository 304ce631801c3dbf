use Rattle.cqlp_type.proofs.ReadBack.{option_read}
use Rattle.cqlp_type.proofs.laws.read_is_spelled.Goals as goal

pub returns : goal.returns
returns c = option_read
