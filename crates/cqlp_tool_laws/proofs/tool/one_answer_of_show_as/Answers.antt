use Rattle.cqlp_tool_laws.proofs.OneAnswer.{commands_end_once, shown_rightly, shown_once}
use Rattle.cqlp_tool_laws.proofs.tool.one_answer_of_show_as.Goals as goal

pub returns-clause-right : goal.returns-clause-right
returns-clause-right c = shown_rightly

pub returns-clause-once : goal.returns-clause-once
returns-clause-once c = shown_once

pub returns-clause-ends : goal.returns-clause-ends
returns-clause-ends c = commands_end_once
