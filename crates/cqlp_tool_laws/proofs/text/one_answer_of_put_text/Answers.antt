use Rattle.cqlp_tool_laws.proofs.OneText.{writes_once}
use Rattle.cqlp_tool_laws.proofs.text.one_answer_of_put_text.Goals as goal

pub returns : goal.returns
returns c = writes_once
