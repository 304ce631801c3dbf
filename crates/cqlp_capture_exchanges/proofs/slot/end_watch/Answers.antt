use Rattle.std.proofs.Common.{◌≡◌, None, OnOk, false, subst, true}
use Rattle.cqlp_observer.specs.Watches.{Watched, after_end}
use Rattle.cqlp_capture_exchanges.specs.Accounts.{ReportsAll}
use Rattle.cqlp_capture_exchanges.specs.Reports.{messages}
use Rattle.cqlp_capture_exchanges.proofs.Accounts.{fails_first, known_after, reports_more}
use Rattle.cqlp_capture_exchanges.proofs.slot.end_watch.Goals as goal

pub returns-in-Ok-clause-reports : goal.returns-in-Ok-clause-reports
returns-in-Ok-clause-reports g c = λ known.
    let n = c.args.connection.now in
    let first = after_end false c.args.room c.args.watch.now in
    let mid = c.end_direction.new.reporter in
    let last = c.end_direction-in-Ok in
    let accounted = c.in-Ok.ensures.reports known in
    reports_more n (messages None first.reported) (messages None (after_end true c.args.room first.after).reported) c.args.reporter.now mid last.new.reporter last.result accounted
    (subst (λ (v : Watched). ReportsAll n (messages None (after_end true c.args.room v).reported) mid last.result last.new.reporter) (c.in-Ok.ensures.after known) (last.ensures.reports (known_after n (messages None first.reported) c.args.reporter.now mid accounted known)))

pub returns-in-Err-clause-reports : goal.returns-in-Err-clause-reports
returns-in-Err-clause-reports g c = λ known.
    let first = after_end false c.args.room c.args.watch.now in
    fails_first c.args.connection.now (messages None first.reported) (messages None (after_end true c.args.room first.after).reported) c.args.reporter.now c.end_direction.new.reporter c.in-Err.fault (c.in-Err.ensures.reports known)

pub returns-in-Ok-clause-after : goal.returns-in-Ok-clause-after
returns-in-Ok-clause-after g c = λ known.
    let n = c.args.connection.now in
    let first = after_end false c.args.room c.args.watch.now in
    let mid = c.end_direction.new.reporter in
    let last = c.end_direction-in-Ok in
    let accounted = c.in-Ok.ensures.reports known in
    subst (λ (v : Watched). OnOk last.result (last.new.watch ≡ (after_end true c.args.room v).after)) (c.in-Ok.ensures.after known) (last.ensures.after (known_after n (messages None first.reported) c.args.reporter.now mid accounted known))
