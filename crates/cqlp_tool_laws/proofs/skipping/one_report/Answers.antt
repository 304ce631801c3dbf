use Rattle.cqlp_tool_laws.proofs.SkippedEnds.{one_report}
use Rattle.cqlp_tool_laws.proofs.skipping.one_report.Goals as goal

pub returns : goal.returns
returns c = one_report
