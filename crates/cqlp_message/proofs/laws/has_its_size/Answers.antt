use Rattle.cqlp_message.proofs.Sizes.{frame_long}
use Rattle.cqlp_message.proofs.laws.has_its_size.Goals as goal

pub returns : goal.returns
returns c = frame_long
