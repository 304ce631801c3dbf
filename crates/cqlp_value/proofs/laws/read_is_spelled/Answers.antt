use Rattle.cqlp_value.proofs.ReadBack.{cell_read}
use Rattle.cqlp_value.proofs.laws.read_is_spelled.Goals as goal

pub returns : goal.returns
returns c = cell_read
