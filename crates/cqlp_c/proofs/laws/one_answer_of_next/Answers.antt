use Rattle.cqlp_c.proofs.OneBatch.{one_answer}
use Rattle.cqlp_c.proofs.laws.one_answer_of_next.Goals as goal

pub returns : goal.returns
returns c = λ gifts old new new' s input begins buffer buffer' es b b' before after after' a x y. one_answer gifts old new new' s input begins buffer buffer' es b b' before after after' a x y
