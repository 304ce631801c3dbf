use Rattle.cqlp_cell.proofs.Lenient.{raw_is_none}
use Rattle.cqlp_cell.proofs.laws.raw_is_none_of_its_type.Goals as goal

pub returns : goal.returns
returns c = raw_is_none
