use Rattle.cqlp_skip_laws.proofs.Tables.{one_taking}
use Rattle.cqlp_skip_laws.proofs.laws.one_answer_of_taking.Goals as goal

pub returns : goal.returns
returns c = one_taking
