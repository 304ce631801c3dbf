use Rattle.cqlp_encode.proofs.LentAnswers.{one_answer}
use Rattle.cqlp_encode.proofs.laws.one_answer_of_encode_page.Goals as goal

pub returns : goal.returns
returns c = one_answer
