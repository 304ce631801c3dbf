use Rattle.cqlp_note.proofs.OneAnswer.{one_push}
use Rattle.cqlp_note.proofs.laws.one_answer_of_push.Goals as goal

pub returns : goal.returns
returns c = λ p q input a b new_p new_q same. one_push p q input same a b new_p new_q
