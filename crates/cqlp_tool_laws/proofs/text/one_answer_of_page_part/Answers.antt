use Rattle.cqlp_text.specs.PageText.{page_part}
use Rattle.cqlp_tool_laws.proofs.OneText.{writes_once}
use Rattle.cqlp_tool_laws.proofs.text.one_answer_of_page_part.Goals as goal

pub returns : goal.returns
returns c = λ place event. writes_once (page_part place event)
