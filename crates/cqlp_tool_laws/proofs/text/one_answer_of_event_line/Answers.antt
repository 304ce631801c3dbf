use Rattle.cqlp_text.specs.Lines.{line}
use Rattle.cqlp_tool_laws.proofs.OneText.{writes_once}
use Rattle.cqlp_tool_laws.proofs.text.one_answer_of_event_line.Goals as goal

pub returns : goal.returns
returns c = λ at event. writes_once (line at event)
