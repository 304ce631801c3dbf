use Rattle.std.proofs.Common.{ap}
use Rattle.cqlp_build.specs.Building.{events_in, state}
use Rattle.cqlp_build.specs.FrameEvents.{left}
use Rattle.cqlp_build.proofs.Finishing.{end_refused}
use Rattle.cqlp_build.proofs.builder.FrameBuilder.end.Goals as goal

pub returns-in-Err : goal.returns-in-Err
returns-in-Err c =
    end_refused (state c.args.self.now) (state c.clear.new.self) c.in-Some.header (left c.args.self.now.held) c.args.extra c.in-Err.why
    (ap (λ o. events_in o c.args.self.now.held) c.in-Some.is) c.in-Err.ensures c.clear.ensures
