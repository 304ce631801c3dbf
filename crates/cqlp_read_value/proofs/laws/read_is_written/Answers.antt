use Rattle.cqlp_read_value.proofs.OneAnswer.{read_written}
use Rattle.cqlp_read_value.proofs.laws.read_is_written.Goals as goal

pub returns : goal.returns
returns c = read_written
