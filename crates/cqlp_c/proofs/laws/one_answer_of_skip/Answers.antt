use Rattle.cqlp_c.proofs.Skipping.{one_answer}
use Rattle.cqlp_c.proofs.laws.one_answer_of_skip.Goals as goal

pub returns : goal.returns
returns c = one_answer
