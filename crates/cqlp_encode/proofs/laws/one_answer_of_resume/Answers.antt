use Rattle.cqlp_encode.proofs.RestAnswers.{rests_once}
use Rattle.cqlp_encode.proofs.laws.one_answer_of_resume.Goals as goal

pub returns : goal.returns
returns c = rests_once
