use Rattle.cqlp_tool_laws.proofs.SkippedEnds.{one_answer}
use Rattle.cqlp_tool_laws.proofs.skipping.one_answer.Goals as goal

pub returns : goal.returns
returns c = one_answer
