use Rattle.cqlp_value.proofs.OneValue.{one_spelled}
use Rattle.cqlp_value.proofs.laws.one_is_spelled.Goals as goal

pub returns : goal.returns
returns c = one_spelled
