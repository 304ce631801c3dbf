use Rattle.cqlp_laws.proofs.OneAnswer.{one_held}
use Rattle.cqlp_laws.proofs.one_answer.one_answer_of_held.Goals as goal

pub returns : goal.returns
returns c = one_held
