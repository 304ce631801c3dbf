use Rattle.cqlp_encode.proofs.PageAnswers.{finishes_once}
use Rattle.cqlp_encode.proofs.laws.one_answer_of_finish.Goals as goal

pub returns : goal.returns
returns c = finishes_once
