use Rattle.cqlp_tool_laws.proofs.Conversations.{one_answer}
use Rattle.cqlp_tool_laws.proofs.conversation.one_answer_of_talk.Goals as goal

pub returns : goal.returns
returns c = one_answer
