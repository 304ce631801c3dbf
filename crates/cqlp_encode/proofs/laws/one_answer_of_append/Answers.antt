use Rattle.cqlp_encode.proofs.OneAnswer.{one_append_answer}
use Rattle.cqlp_encode.proofs.laws.one_answer_of_append.Goals as goal

pub returns : goal.returns
returns c = one_append_answer
