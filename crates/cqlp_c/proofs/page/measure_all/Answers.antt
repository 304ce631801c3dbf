use Rattle.std.proofs.Common.{ap, refl, sym, ◌∙◌}
use Rattle.std.proofs.Math.ListN.{drop_of_length-le}
use Rattle.cqlp_grammar.specs.Events.{event_of}
use Rattle.cqlp_c.specs.Pages.{measured, sum_of}
use Rattle.cqlp_c.proofs.PagesPut.{measured_next, measured_stops}
use Rattle.cqlp_c.proofs.page.measure_all.Goals as goal

pub loop-event-init : goal.loop-event-init
loop-event-init c = refl

pub loop-event-preserved : goal.loop-event-preserved
loop-event-preserved c =
    c.loop-event.invariant
    ∙ measured_next c.args.events.now c.loop-event.event _ c.loop-event-test.true c.loop-event.sum c.loop-event.rest.now (event_of c.in-Ok.found) _ _
    c.in-Ok.ensures.event (c.saturating_add-sum.ensures ∙ ap (sum_of c.loop-event.sum) c.event_size.ensures) c.in-Ok.ensures.rest

pub returns-in-Err : goal.returns-in-Err
returns-in-Err c = sym (c.loop-event.invariant ∙ measured_stops c.args.events.now c.loop-event.event _ c.loop-event-test.true c.loop-event.sum c.loop-event.rest.now c.in-Err.why (sym c.in-Err.ensures.event))

pub returns : goal.returns
returns c = sym (c.loop-event.invariant ∙ ap (measured c.loop-event.event c.loop-event.sum c.loop-event.rest.now) (drop_of_length-le c.args.events.now c.loop-event-test.false))
