use Rattle.cqlp_encode.proofs.PageAnswers.{adds_once}
use Rattle.cqlp_encode.proofs.laws.one_answer_of_cell.Goals as goal

pub returns : goal.returns
returns c = adds_once
