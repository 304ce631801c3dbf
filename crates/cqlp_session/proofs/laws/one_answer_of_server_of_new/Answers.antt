use Rattle.cqlp_session.specs.Carried.{new_carrying_server}
use Rattle.cqlp_session.proofs.OneAnswer.{one_made}
use Rattle.cqlp_session.proofs.laws.one_answer_of_server_of_new.Goals as goal

pub returns : goal.returns
returns g c = λ slots a b. one_made slots (new_carrying_server slots) a b
