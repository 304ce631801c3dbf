use Rattle.cqlp_tool_laws.proofs.OneText.{offered_once}
use Rattle.cqlp_tool_laws.proofs.text.one_answer_of_offer.Goals as goal

pub returns : goal.returns
returns c = offered_once
