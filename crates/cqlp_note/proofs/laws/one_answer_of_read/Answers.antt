use Rattle.cqlp_note.proofs.OneAnswer.{one_read}
use Rattle.cqlp_note.proofs.laws.one_answer_of_read.Goals as goal

pub returns : goal.returns
returns c = λ left failed answer a b. one_read left failed answer a b
