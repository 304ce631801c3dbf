use Rattle.cqlp_build_cells.proofs.OneAnswers.{one_answer}
use Rattle.cqlp_build_cells.proofs.laws.one_answer.Goals as goal

pub returns : goal.returns
returns c = λ s e a b na nb t u. one_answer s e a b na nb t u
