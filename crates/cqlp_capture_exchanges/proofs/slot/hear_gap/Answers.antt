use Rattle.std.proofs.Common.{None, subst}
use Rattle.cqlp_observer.specs.Watches.{Reporting}
use Rattle.cqlp_capture_exchanges.specs.Accounts.{ReportedAll}
use Rattle.cqlp_capture_exchanges.specs.Reports.{messages}
use Rattle.cqlp_capture_exchanges.proofs.slot.hear_gap.Goals as goal

pub returns-in-Ok-clause-reports : goal.returns-in-Ok-clause-reports
returns-in-Ok-clause-reports g c =
    subst (λ (t : Reporting). ReportedAll c.args.connection.now (messages None t.reported) c.args.reporter.now c.report_messages.result c.report_messages.new.self) c.in-Ok.ensures c.report_messages.ensures
