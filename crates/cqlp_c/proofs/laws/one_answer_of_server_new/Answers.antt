use Rattle.cqlp_session.specs.Carried.{new_carrying_server}
use Rattle.cqlp_c.proofs.Cored.{one_core}
use Rattle.cqlp_c.proofs.laws.one_answer_of_server_new.Goals as goal

pub returns : goal.returns
returns c = λ slots old code code' new new' x y same. one_core new_carrying_server slots old code code' new new' x y same
