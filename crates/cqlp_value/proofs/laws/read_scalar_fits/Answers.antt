use Rattle.cqlp_value.proofs.ScalarsWritten.{scalar_read_fits}
use Rattle.cqlp_value.proofs.laws.read_scalar_fits.Goals as goal

pub returns : goal.returns
returns c = scalar_read_fits
