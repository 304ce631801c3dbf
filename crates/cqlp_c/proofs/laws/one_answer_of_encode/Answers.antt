use Rattle.cqlp_c.proofs.OneEncoded.{one_encoded}
use Rattle.cqlp_c.proofs.laws.one_answer_of_encode.Goals as goal

pub returns : goal.returns
returns c = λ cs contents before a b one other t u x y. one_encoded cs contents before a b one other t u x y
