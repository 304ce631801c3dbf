use Rattle.cqlp_read_value.proofs.OneAnswer.{written_read}
use Rattle.cqlp_read_value.proofs.laws.written_is_read.Goals as goal

pub returns : goal.returns
returns c = written_read
