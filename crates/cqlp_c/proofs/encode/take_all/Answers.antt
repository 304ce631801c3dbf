use Rattle.std.proofs.Common.{refl}
use Rattle.cqlp_compose.specs.Composing.{composed}
use Rattle.cqlp_c.proofs.Encoded.{all_next, all_taken, stops_at}
use Rattle.cqlp_c.proofs.encode.take_all.Goals as goal

pub loop-event-init : goal.loop-event-init
loop-event-init c = refl

pub loop-event-preserved : goal.loop-event-preserved
loop-event-preserved c =
    all_next (composed c.args.composer.now, c.args.contents.now) c.args.events.now c.loop-event.event _ _ c.loop-event-test.true c.loop-event.invariant _ c.in-Ok.ensures

pub returns-in-Err : goal.returns-in-Err
returns-in-Err c =
    stops_at (composed c.args.composer.now, c.args.contents.now) c.args.events.now c.loop-event.event _ _ c.loop-event-test.true c.loop-event.invariant c.in-Err.why _ c.in-Err.ensures

pub returns : goal.returns
returns c = all_taken _ c.args.events.now c.loop-event.event _ c.loop-event-test.false c.loop-event.invariant
