use Rattle.cqlp_type.proofs.WrittenTrees.{tree_fits}
use Rattle.cqlp_type.proofs.laws.spelled_fits.Goals as goal

pub returns : goal.returns
returns c = tree_fits
