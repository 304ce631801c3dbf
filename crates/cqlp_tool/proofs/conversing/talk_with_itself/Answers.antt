use Rattle.std.proofs.Common.{inr}
use Rattle.cqlp_tool.proofs.conversing.talk_with_itself.Goals as goal

pub returns : goal.returns
returns g c = inr (_, _, c.talk.ensures.converses)
