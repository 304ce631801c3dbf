use Rattle.cqlp_tool_laws.proofs.CommandLines.{captures_caused}
use Rattle.cqlp_tool_laws.proofs.command_line.faults_of_captures_have_causes.Goals as goal

pub returns : goal.returns
returns c = captures_caused
