use Rattle.cqlp_read_value.proofs.OneAnswer.{one_answer}
use Rattle.cqlp_read_value.proofs.laws.one_answer_of_read_value.Goals as goal

pub returns : goal.returns
returns c = one_answer
