use Rattle.cqlp_json.specs.Lines.{json_line}
use Rattle.cqlp_tool_laws.proofs.OneText.{writes_once}
use Rattle.cqlp_tool_laws.proofs.text.one_answer_of_json_line.Goals as goal

pub returns : goal.returns
returns c = λ at event. writes_once (json_line at event)
