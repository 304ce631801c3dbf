use Rattle.cqlp_type_tables.proofs.TableLaws.{one_answer}
use Rattle.cqlp_type_tables.proofs.laws.one_answer.Goals as goal

pub returns : goal.returns
returns c = one_answer
