use Rattle.cqlp_value.proofs.ScalarsWritten.{scalar_written}
use Rattle.cqlp_value.proofs.laws.scalar_is_its_content.Goals as goal

pub returns : goal.returns
returns c = scalar_written
