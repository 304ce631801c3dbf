use Rattle.cqlp_compose.proofs.OneAnswerOfBatches.{one_answer_of_begin}
use Rattle.cqlp_compose.proofs.laws.one_answer_of_begin.Goals as goal

pub returns : goal.returns
returns c = λ s n len a b p q. one_answer_of_begin s n len a b p q
