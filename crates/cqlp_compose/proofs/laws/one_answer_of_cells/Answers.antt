use Rattle.cqlp_compose.proofs.OneAnswerOfCells.{one_answer}
use Rattle.cqlp_compose.proofs.laws.one_answer_of_cells.Goals as goal

pub returns : goal.returns
returns c = λ s e a b x y p q. one_answer s e a b x y p q
