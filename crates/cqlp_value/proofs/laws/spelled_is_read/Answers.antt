use Rattle.cqlp_value.proofs.SpelledRead.{cell_spelled}
use Rattle.cqlp_value.proofs.laws.spelled_is_read.Goals as goal

pub returns : goal.returns
returns c = cell_spelled
