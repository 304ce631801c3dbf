use Rattle.cqlp_value.proofs.OneAnswer.{one_advance}
use Rattle.cqlp_value.proofs.laws.one_answer_of_cell_advance.Goals as goal

pub returns : goal.returns
returns c = one_advance
