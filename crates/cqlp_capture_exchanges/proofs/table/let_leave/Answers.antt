use Rattle.std.proofs.Common.{◌∙◌, ap}
use Rattle.cqlp_observer.specs.declared.room.WatchRoom.{WatchRoom}
use Rattle.cqlp_capture_exchanges.specs.Connections.{of_totals}
use Rattle.cqlp_capture_exchanges.specs.Pools.{room_for}
use Rattle.cqlp_capture_exchanges.specs.Reports.{end_of}
use Rattle.cqlp_capture_exchanges.proofs.Talks.{leave_err, leave_ok}
use Rattle.cqlp_capture_exchanges.proofs.table.let_leave.Goals as goal

pub returns-in-Ok-clause-reports : goal.returns-in-Ok-clause-reports
returns-in-Ok-clause-reports g c = λ known.
    let room = c.room_for-room.ensures ∙ ap (λ (o : WatchRoom). room_for o c.args.pool.now) c.held-old.ensures in
    leave_ok (of_totals c.args.totals.now) c.end_of.result (end_of c.args.totals.now) c.room_for-room.result _ c.args.slot c.end.new.self c.args.reporter.now c.end.new.reporter c.let_go.new.reporter c.let_go.result room c.end_of.ensures (c.in-Ok.ensures.reports known) (c.in-Ok.ensures.after known) c.let_go.ensures known

pub returns-clause-reports : goal.returns-clause-reports
returns-clause-reports g c = λ known.
    let room = c.room_for-room.ensures ∙ ap (λ (o : WatchRoom). room_for o c.args.pool.now) c.held-old.ensures in
    leave_err (of_totals c.args.totals.now) (end_of c.args.totals.now) c.room_for-room.result _ c.args.slot c.args.reporter.now c.end.new.reporter c.in-Err.fault room (c.in-Err.ensures.reports known)
