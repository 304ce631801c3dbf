use Rattle.cqlp_build_cells.proofs.OneAnswers.{one_answer_of_finish}
use Rattle.cqlp_build_cells.proofs.laws.one_answer_of_finish.Goals as goal

pub returns : goal.returns
returns c = λ es t a b h g. one_answer_of_finish es t a b h g
