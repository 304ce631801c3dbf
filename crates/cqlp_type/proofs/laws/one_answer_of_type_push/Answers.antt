use Rattle.cqlp_type.proofs.OneAnswer.{one_push}
use Rattle.cqlp_type.proofs.laws.one_answer_of_type_push.Goals as goal

pub returns : goal.returns
returns c = one_push
