use Rattle.cqlp_session.proofs.OneAnswer.{one_value}
use Rattle.cqlp_session.proofs.laws.one_answer_of_answer.Goals as goal

pub returns : goal.returns
returns g c = one_value
