use Rattle.cqlp_value.proofs.OneAnswer.{one_push}
use Rattle.cqlp_value.proofs.laws.one_answer_of_cell_push.Goals as goal

pub returns : goal.returns
returns c = one_push
