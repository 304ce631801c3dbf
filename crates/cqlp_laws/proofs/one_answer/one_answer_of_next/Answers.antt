use Rattle.cqlp_laws.proofs.OneAnswer.{one_next}
use Rattle.cqlp_laws.proofs.one_answer.one_answer_of_next.Goals as goal

pub returns : goal.returns
returns c = one_next
