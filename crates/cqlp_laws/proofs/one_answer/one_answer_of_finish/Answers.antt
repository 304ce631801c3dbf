use Rattle.cqlp_laws.proofs.OneAnswer.{one_finish}
use Rattle.cqlp_laws.proofs.one_answer.one_answer_of_finish.Goals as goal

pub returns : goal.returns
returns c = one_finish
