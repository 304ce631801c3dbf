use Rattle.cqlp_tool_laws.proofs.OneAnswer.{checks_end_once, checked_rightly, checked_once}
use Rattle.cqlp_tool_laws.proofs.tool.one_answer_of_check.Goals as goal

pub returns-clause-right : goal.returns-clause-right
returns-clause-right c = checked_rightly

pub returns-clause-once : goal.returns-clause-once
returns-clause-once c = checked_once

pub returns-clause-ends : goal.returns-clause-ends
returns-clause-ends c = checks_end_once
