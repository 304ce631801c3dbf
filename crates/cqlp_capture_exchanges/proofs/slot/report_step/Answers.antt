use Rattle.std.proofs.Common.{None}
use Rattle.cqlp_capture_exchanges.specs.Reports.{messages, unread}
use Rattle.cqlp_capture_exchanges.proofs.Accounts.{fails_first, known_after, reports_more}
use Rattle.cqlp_capture_exchanges.proofs.slot.report_step.Goals as goal

pub returns-in-Ok : goal.returns-in-Ok
returns-in-Ok g c = λ known.
    let first = unread c.args.time c.args.was_reported c.args.opening in
    let mid = c.report_opening.new.self in
    reports_more c.args.connection.now first (messages None c.args.exchange.now) c.args.reporter.now mid c.report_messages.new.self c.report_messages.result (c.in-Ok.ensures known) (c.report_messages.ensures (known_after c.args.connection.now first c.args.reporter.now mid (c.in-Ok.ensures known) known))

pub returns-in-Err : goal.returns-in-Err
returns-in-Err g c = λ known.
    fails_first c.args.connection.now (unread c.args.time c.args.was_reported c.args.opening) (messages None c.args.exchange.now) c.args.reporter.now c.report_opening.new.self c.in-Err.fault (c.in-Err.ensures known)
