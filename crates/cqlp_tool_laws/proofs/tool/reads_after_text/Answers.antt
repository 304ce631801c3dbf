use Rattle.cqlp_tool_laws.proofs.LastRead.{read_after_text, read_unrefused}
use Rattle.cqlp_tool_laws.proofs.tool.reads_after_text.Goals as goal

pub returns-clause-show_as : goal.returns-clause-show_as
returns-clause-show_as c = read_after_text

pub returns-clause-check : goal.returns-clause-check
returns-clause-check c = read_unrefused
