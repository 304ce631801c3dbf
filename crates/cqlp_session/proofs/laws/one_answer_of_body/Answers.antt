use Rattle.cqlp_session.proofs.OneAnswer.{one_body}
use Rattle.cqlp_session.proofs.laws.one_answer_of_body.Goals as goal

pub returns : goal.returns
returns c = one_body
