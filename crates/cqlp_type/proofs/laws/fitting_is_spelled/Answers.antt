use Rattle.cqlp_type.proofs.WrittenTrees.{tree_written}
use Rattle.cqlp_type.proofs.laws.fitting_is_spelled.Goals as goal

pub returns : goal.returns
returns c = tree_written
