use Rattle.cqlp_tool_laws.proofs.Conversations.{one_goes_on, decided_goes_furthest}
use Rattle.cqlp_tool_laws.proofs.conversation.one_talk_goes_on.Goals as goal

pub returns-clause-either : goal.returns-clause-either
returns-clause-either c = one_goes_on

pub returns-clause-decided : goal.returns-clause-decided
returns-clause-decided c = decided_goes_furthest
