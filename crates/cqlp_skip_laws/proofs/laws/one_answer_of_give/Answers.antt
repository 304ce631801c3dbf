use Rattle.cqlp_skip_laws.proofs.Tables.{one_giving}
use Rattle.cqlp_skip_laws.proofs.laws.one_answer_of_give.Goals as goal

pub returns : goal.returns
returns c = one_giving
