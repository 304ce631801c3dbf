use Rattle.cqlp_tool_laws.proofs.SkippedEnds.{one_check}
use Rattle.cqlp_tool_laws.proofs.skipping.one_check.Goals as goal

pub returns : goal.returns
returns c = one_check
