use Rattle.cqlp_row_text.specs.JsonRows.{json_part}
use Rattle.cqlp_tool_laws.proofs.OneText.{writes_once}
use Rattle.cqlp_tool_laws.proofs.text.one_answer_of_json_part.Goals as goal

pub returns : goal.returns
returns c = λ place event. writes_once (json_part place event)
