use Rattle.cqlp_read_value.proofs.OneAnswer.{unowned_read}
use Rattle.cqlp_read_value.proofs.laws.unowned_is_read.Goals as goal

pub returns : goal.returns
returns c = unowned_read
