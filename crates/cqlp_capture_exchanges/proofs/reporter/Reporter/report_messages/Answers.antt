use Rattle.cqlp_capture_exchanges.specs.Reports.{Messages}
use Rattle.cqlp_capture_exchanges.proofs.Accounts.{stops_one}
use Rattle.cqlp_capture_exchanges.proofs.reporter.Reporter.report_messages.Goals as goal

pub returns-in-Err : goal.returns-in-Err
returns-in-Err g c = λ known.
    rw c.in-Some.is (stops_one c.args.connection.now (Messages c.in-Some.paired c.args.end) c.args.self.now c.take_report-taken.new.self (c.in-Err.ensures known))
