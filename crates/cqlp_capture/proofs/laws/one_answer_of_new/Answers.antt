use Rattle.cqlp_capture.proofs.OneAnswer.{one_made}
use Rattle.cqlp_capture.proofs.laws.one_answer_of_new.Goals as goal

pub returns : goal.returns
returns c = one_made
