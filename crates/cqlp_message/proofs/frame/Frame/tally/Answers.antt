use Rattle.std.proofs.Common.{[]}
use Rattle.cqlp_message.proofs.frame.Frame.tally.Goals as goal

pub returns : goal.returns
returns c = c.walk.ensures.takes tt [] c.new-tally.ensures
