use Rattle.cqlp_session.specs.Server.{new_server}
use Rattle.cqlp_session.proofs.OneAnswer.{one_made}
use Rattle.cqlp_session.proofs.laws.one_answer_of_server_new.Goals as goal

pub returns : goal.returns
returns c = λ slots a b. one_made slots (new_server slots) a b
