use Rattle.cqlp_capture_exchanges.specs.Reports.{Unread}
use Rattle.cqlp_capture_exchanges.proofs.Accounts.{stops_one}
use Rattle.cqlp_capture_exchanges.proofs.reporter.Reporter.report_unread.Goals as goal

pub returns-in-Err : goal.returns-in-Err
returns-in-Err g c = λ known. stops_one c.args.connection.now (Unread c.args.time c.args.opening) c.args.self.now c.take_report.new.self (c.in-Err.ensures known)
