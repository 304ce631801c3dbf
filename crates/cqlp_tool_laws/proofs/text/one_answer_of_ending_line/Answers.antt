use Rattle.cqlp_text.specs.Endings.{ending_line}
use Rattle.cqlp_tool_laws.proofs.OneText.{writes_once}
use Rattle.cqlp_tool_laws.proofs.text.one_answer_of_ending_line.Goals as goal

pub returns : goal.returns
returns c = λ ending. writes_once (ending_line ending)
