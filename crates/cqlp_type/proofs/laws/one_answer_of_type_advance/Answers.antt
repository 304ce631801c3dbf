use Rattle.cqlp_type.proofs.OneAnswer.{one_advance}
use Rattle.cqlp_type.proofs.laws.one_answer_of_type_advance.Goals as goal

pub returns : goal.returns
returns c = one_advance
