use Rattle.cqlp_message.proofs.PlainFrames.{derived_agree}
use Rattle.cqlp_message.proofs.laws.derived_flags_agree.Goals as goal

pub returns : goal.returns
returns c = derived_agree
