use Rattle.cqlp_value.proofs.ValuesWritten.{value_spelled_fits}
use Rattle.cqlp_value.proofs.laws.spelled_fits.Goals as goal

pub returns : goal.returns
returns c = value_spelled_fits
