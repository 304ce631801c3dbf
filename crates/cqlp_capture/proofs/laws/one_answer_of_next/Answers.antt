use Rattle.cqlp_capture.proofs.OneAnswer.{one_answer}
use Rattle.cqlp_capture.proofs.laws.one_answer_of_next.Goals as goal

pub returns : goal.returns
returns c = λ old new new' input x y a b. one_answer old new new' input x y a.0 b.0
