use Rattle.cqlp_note.proofs.OneAnswer.{one_write}
use Rattle.cqlp_note.proofs.laws.one_answer_of_write.Goals as goal

pub returns : goal.returns
returns c = λ given failed answer a b same. one_write given failed answer a b same
