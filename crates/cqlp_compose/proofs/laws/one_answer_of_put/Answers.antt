use Rattle.cqlp_compose.proofs.OneAnswerOfBatches.{one_answer_of_take}
use Rattle.cqlp_compose.proofs.laws.one_answer_of_put.Goals as goal

pub returns : goal.returns
returns c = λ old e n a b x y s t p q. one_answer_of_take old e n a b x y s t p q
