use Rattle.cqlp_encode.proofs.RestAnswers.{begins_from_once}
use Rattle.cqlp_encode.proofs.laws.one_answer_of_begin_from.Goals as goal

pub returns : goal.returns
returns c = begins_from_once
