use Rattle.cqlp_cell.proofs.Lenient.{goes_on}
use Rattle.cqlp_cell.proofs.laws.lenient_goes_on.Goals as goal

pub returns : goal.returns
returns c = goes_on
