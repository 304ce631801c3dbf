use Rattle.cqlp_text.specs.Endings.{cannot_open_line}
use Rattle.cqlp_tool_laws.proofs.OneText.{writes_once}
use Rattle.cqlp_tool_laws.proofs.text.one_answer_of_cannot_open_line.Goals as goal

pub returns : goal.returns
returns c = λ file. writes_once (cannot_open_line file)
