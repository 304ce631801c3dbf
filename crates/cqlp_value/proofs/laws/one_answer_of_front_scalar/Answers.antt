use Rattle.cqlp_value.proofs.OneFront.{one_front}
use Rattle.cqlp_value.proofs.laws.one_answer_of_front_scalar.Goals as goal

pub returns : goal.returns
returns c = one_front
