use Rattle.cqlp_build.proofs.Counted.{counted_builds}
use Rattle.cqlp_build.proofs.held.FrameEvents.counted.Goals as goal

pub returns : goal.returns
returns g c = counted_builds c.args.field (g.T.FromEvents.parts c.args.wanted) (g.T.FromEvents.is_wanted c.args.wanted) c.count-count.ensures.is c.many.ensures
