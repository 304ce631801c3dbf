use Rattle.cqlp_columns.proofs.OneRead.{one_answer_of_read}
use Rattle.cqlp_columns.proofs.laws.one_answer_of_read.Goals as goal

pub returns : goal.returns
returns g c = one_answer_of_read g.S.Sink
