use Rattle.cqlp_read_value.proofs.CellAnswer.{one_cell}
use Rattle.cqlp_read_value.proofs.laws.one_answer_of_read_cell.Goals as goal

pub returns : goal.returns
returns c = one_cell
