use Rattle.std.proofs.Common.{[], None, refl, subst}
use Rattle.cqlp_observer.specs.Watches.{Reporting, after_end}
use Rattle.cqlp_capture_exchanges.specs.Accounts.{ReportedAll}
use Rattle.cqlp_capture_exchanges.specs.Reports.{messages}
use Rattle.cqlp_capture_exchanges.proofs.Accounts.{refused_after}
use Rattle.cqlp_capture_exchanges.proofs.slot.end_direction.Goals as goal

pub returns-in-Ok-clause-reports : goal.returns-in-Ok-clause-reports
returns-in-Ok-clause-reports g c =
    subst (λ (t : Reporting). ReportedAll c.args.connection.now (messages None t.reported) c.args.reporter.now c.report_messages.result c.report_messages.new.self) c.in-Ok.ensures c.report_messages.ensures

pub returns-in-Err-clause-reports : goal.returns-in-Err-clause-reports
returns-in-Err-clause-reports g c = λ known. refused_after c.args.connection.now [] (messages None (after_end c.args.responses c.args.room c.args.watch.now).reported) c.args.reporter.now c.args.reporter.now refl
