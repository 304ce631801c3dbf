use Rattle.std.proofs.Common.{ℕ, ◌+◌, ◌-◌, length, sym, subst}
use borrow.Rule.Slice.PartMut.{put_mid}
use Rattle.cqlp_compose.specs.Put.{putter}
use Rattle.cqlp_c.specs.declared.page.CqlpPut.{CqlpPut}
use Rattle.cqlp_c.specs.Pages.{PutsAll}
use Rattle.cqlp_c.proofs.PagesPut.{PutSoFar, all_cut, all_done, more_in_part, none_put, short_by, some_in_part}
use Rattle.cqlp_c.proofs.page.put_all.Goals as goal

pub loop-event-init : goal.loop-event-init
loop-event-init c = none_put (putter c.args.cells.now) c.args.events.now c.args.contents.now c.args.room.now

pub overflow_sub-contents : goal.overflow_sub-contents
overflow_sub-contents c =
    short_by c.args.contents.now c.loop-event.rest.now c.in-Ok.behind.now _ c.loop-event.invariant.left c.in-Ok.ensures.1.3

pub loop-event-preserved : goal.loop-event-preserved
loop-event-preserved c =
    subst (λ (p : CqlpPut). PutSoFar (putter c.args.cells.now) (putter c.put_from_c.new.cells) c.args.events.now c.args.contents.now c.args.room.now
    (put_mid c.loop-event.put.length (length c.loop-event.room - c.loop-event.put.length) c.loop-event.room c.put_from_c.new.room) (c.loop-event.event + 1) p c.in-Ok.behind.now) (sym c.gone_on-put.ensures)
    (more_in_part (putter c.args.cells.now) (putter c.loop-event.cells) (putter c.put_from_c.new.cells) c.args.events.now c.args.contents.now c.args.room.now c.loop-event.room c.loop-event.event c.loop-event.put
    c.loop-event.rest.now c.loop-event.invariant _ c.loop-event-test.true c.in-Ok.len c.in-Ok.behind.now c.in-Ok.ensures.0 c.put_from_c.new.room c.in-Ok.ensures.1 c.in-Ok.ensures.2)

pub returns-in-Err : goal.returns-in-Err
returns-in-Err c =
    subst (λ (a : CqlpPut × ℕ). PutsAll (putter c.args.cells.now) c.args.events.now c.args.contents.now c.args.room.now a
    (put_mid c.loop-event.put.length (length c.loop-event.room - c.loop-event.put.length) c.loop-event.room c.put_from_c.new.room) (putter c.put_from_c.new.cells)) (λ i. (sym c.stopped.ensures i, sym c.unput_code.ensures i))
    (some_in_part (putter c.args.cells.now) (putter c.loop-event.cells) (putter c.put_from_c.new.cells) c.args.events.now c.args.contents.now c.args.room.now c.loop-event.room c.loop-event.event c.loop-event.put
    c.loop-event.rest.now c.loop-event.invariant _ c.loop-event-test.true c.in-Err.why c.in-Err.ensures.0 c.put_from_c.new.room c.in-Err.ensures.1 c.in-Err.ensures.2)

pub returns-then-put-events : goal.returns-then-put-events
returns-then-put-events c =
    all_done (putter c.args.cells.now) (putter c.loop-event.cells) c.args.events.now c.args.contents.now c.args.room.now c.loop-event.room c.loop-event.event c.loop-event.put c.loop-event.rest.now c.loop-event.invariant
    c.loop-event-test.false c.if-put-events.true

pub returns-else-put-events : goal.returns-else-put-events
returns-else-put-events c =
    all_cut (putter c.args.cells.now) (putter c.loop-event.cells) c.args.events.now c.args.contents.now c.args.room.now c.loop-event.room c.loop-event.event c.loop-event.put c.loop-event.rest.now c.loop-event.invariant
    c.loop-event-test.false c.if-put-events.false
