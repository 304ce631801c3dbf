use Rattle.cqlp_encode.proofs.Fronts.{same_are_not_changed as law}
use Rattle.cqlp_encode.proofs.laws.same_are_not_changed.Goals as goal

pub returns : goal.returns
returns c = law
