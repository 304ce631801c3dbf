use Rattle.cqlp_encode.proofs.OneAnswer.{one_raw}
use Rattle.cqlp_encode.proofs.laws.one_answer_of_raw_value.Goals as goal

pub returns : goal.returns
returns c = one_raw
