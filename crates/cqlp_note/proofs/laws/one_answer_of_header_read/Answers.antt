use Rattle.cqlp_note.proofs.OneAnswer.{one_header}
use Rattle.cqlp_note.proofs.laws.one_answer_of_header_read.Goals as goal

pub returns : goal.returns
returns c = λ at bytes a b. one_header at bytes a b
