use Rattle.cqlp_value.proofs.ValuesWritten.{value_written}
use Rattle.cqlp_value.proofs.laws.fitting_is_spelled.Goals as goal

pub returns : goal.returns
returns c = value_written
