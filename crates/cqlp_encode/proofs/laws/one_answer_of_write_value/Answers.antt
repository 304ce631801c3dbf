use Rattle.cqlp_encode.proofs.OneAnswer.{one_value_answer}
use Rattle.cqlp_encode.proofs.laws.one_answer_of_write_value.Goals as goal

pub returns : goal.returns
returns c = one_value_answer
