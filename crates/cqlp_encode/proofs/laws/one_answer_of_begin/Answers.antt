use Rattle.cqlp_encode.proofs.PageAnswers.{begins_once}
use Rattle.cqlp_encode.proofs.laws.one_answer_of_begin.Goals as goal

pub returns : goal.returns
returns c = begins_once
