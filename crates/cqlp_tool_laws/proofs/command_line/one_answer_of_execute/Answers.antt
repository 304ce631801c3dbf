use Rattle.cqlp_tool_laws.proofs.CommandLines.{executed_once, loop_goes_on}
use Rattle.cqlp_tool_laws.proofs.command_line.one_answer_of_execute.Goals as goal

pub returns-clause-once : goal.returns-clause-once
returns-clause-once g c = executed_once g.F.Read

pub returns-clause-goes_on : goal.returns-clause-goes_on
returns-clause-goes_on g c = loop_goes_on
