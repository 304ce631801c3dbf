use Rattle.cqlp_laws.proofs.OneAnswer.{one_new}
use Rattle.cqlp_laws.proofs.one_answer.one_answer_of_new.Goals as goal

pub returns : goal.returns
returns c = one_new
