use Rattle.cqlp_c.proofs.OneVerdict.{one_verdict}
use Rattle.cqlp_c.proofs.laws.one_answer_of_check.Goals as goal

pub returns : goal.returns
returns c = λ l stream f f' x y. one_verdict l stream f f' x y
