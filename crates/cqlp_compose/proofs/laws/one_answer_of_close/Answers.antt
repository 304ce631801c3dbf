use Rattle.cqlp_compose.proofs.OneAnswer.{one_answer_of_close}
use Rattle.cqlp_compose.proofs.laws.one_answer_of_close.Goals as goal

pub returns : goal.returns
returns c = one_answer_of_close
