use Rattle.cqlp_session.proofs.OneAnswer.{one_reply}
use Rattle.cqlp_session.proofs.laws.one_answer_of_reply.Goals as goal

pub returns : goal.returns
returns g c = one_reply
