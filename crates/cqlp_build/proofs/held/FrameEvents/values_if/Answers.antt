use Rattle.cqlp_build.proofs.RequestParts.{values_not, values_there}
use Rattle.cqlp_build.proofs.held.FrameEvents.values_if.Goals as goal

pub returns-then-there : goal.returns-then-there
returns-then-there c = values_there c.args.there c.args.named c.if-there.true c.counted.ensures

pub returns-else-there : goal.returns-else-there
returns-else-there c = values_not c.args.there c.args.named c.if-there.false c.args.self.now
