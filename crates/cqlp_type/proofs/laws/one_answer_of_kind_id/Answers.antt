use Rattle.cqlp_type.proofs.Ids.{one_id}
use Rattle.cqlp_type.proofs.laws.one_answer_of_kind_id.Goals as goal

pub returns : goal.returns
returns c = one_id
