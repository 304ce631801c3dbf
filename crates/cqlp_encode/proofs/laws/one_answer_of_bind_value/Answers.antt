use Rattle.cqlp_encode.proofs.OneAnswer.{one_bound}
use Rattle.cqlp_encode.proofs.laws.one_answer_of_bind_value.Goals as goal

pub returns : goal.returns
returns c = one_bound
