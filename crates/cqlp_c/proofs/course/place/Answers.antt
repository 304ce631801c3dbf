use Rattle.std.proofs.Common.{◌∙◌, arith}
use Rattle.cqlp_c.proofs.Placing.{front_all, front_more, front_none}
use Rattle.cqlp_c.proofs.course.place.Goals as goal

pub loop-event-init : goal.loop-event-init
loop-event-init c = front_none c.args.base c.args.events.now

pub loop-event-preserved : goal.loop-event-preserved
loop-event-preserved c = front_more c.args.base c.loop-event.event-index c.args.events.now c.loop-event.events _ c.saturating_add-event.result c.loop-event.invariant (omega (arith, c.loop-event-test.true, c.loop-event.auto.events, c.loop-event.auto.event-index-end)) c.saturating_add-event.ensures

pub returns : goal.returns
returns c = c.loop-event.invariant ∙ front_all c.args.base c.loop-event.event-index c.args.events.now (omega (arith, c.loop-event-test.false, c.loop-event.auto.events, c.loop-event.auto.event-index-end))
