use Rattle.cqlp_type.proofs.Depths.{one_depth}
use Rattle.cqlp_type.proofs.laws.one_answer_of_depth.Goals as goal

pub returns : goal.returns
returns c = one_depth
