use Rattle.cqlp_c.proofs.OneFill.{one_answer_of_columns}
use Rattle.cqlp_c.proofs.laws.one_answer_of_columns.Goals as goal

pub returns : goal.returns
returns c = one_answer_of_columns
