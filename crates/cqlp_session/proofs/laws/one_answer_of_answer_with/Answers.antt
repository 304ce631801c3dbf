use Rattle.cqlp_session.proofs.OneAnswer.{one_headed}
use Rattle.cqlp_session.proofs.laws.one_answer_of_answer_with.Goals as goal

pub returns : goal.returns
returns g c = one_headed
