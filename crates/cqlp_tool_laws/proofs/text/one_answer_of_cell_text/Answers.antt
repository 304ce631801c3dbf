use Rattle.cqlp_text.specs.CellText.{cell_text}
use Rattle.cqlp_tool_laws.proofs.OneText.{writes_once}
use Rattle.cqlp_tool_laws.proofs.text.one_answer_of_cell_text.Goals as goal

pub returns : goal.returns
returns c = λ scalar. writes_once (cell_text scalar)
