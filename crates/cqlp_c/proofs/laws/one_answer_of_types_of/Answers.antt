use Rattle.cqlp_c.proofs.OneCalls.{one_answer_of_types_of}
use Rattle.cqlp_c.proofs.laws.one_answer_of_types_of.Goals as goal

pub returns : goal.returns
returns c = one_answer_of_types_of
