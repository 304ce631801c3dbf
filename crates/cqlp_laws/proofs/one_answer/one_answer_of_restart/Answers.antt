use Rattle.cqlp_laws.proofs.OneAnswer.{one_restart}
use Rattle.cqlp_laws.proofs.one_answer.one_answer_of_restart.Goals as goal

pub returns : goal.returns
returns c = one_restart
