use Rattle.cqlp_encode.proofs.Attempts.{one_answer_from}
use Rattle.cqlp_encode.proofs.laws.one_answer_of_encode_from.Goals as goal

pub returns : goal.returns
returns c = one_answer_from
