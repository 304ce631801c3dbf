use Rattle.cqlp_c.proofs.OneCalls.{one_answer_of_columns_clear}
use Rattle.cqlp_c.proofs.laws.one_answer_of_columns_clear.Goals as goal

pub returns : goal.returns
returns c = one_answer_of_columns_clear
