use Rattle.cqlp_c.proofs.OneCalls.{one_answer_of_columns_get}
use Rattle.cqlp_c.proofs.laws.one_answer_of_columns_get.Goals as goal

pub returns : goal.returns
returns c = one_answer_of_columns_get
