use Rattle.cqlp_capture_streams.specs.ConnectionEvents.{Of, Left}
use Rattle.cqlp_capture_streams.proofs.reporting.finish_one.Goals as goal

pub returns-in_ok-report_last-in-Delivery : goal.returns-in_ok-report_last-in-Delivery
returns-in_ok-report_last-in-Delivery g c = λ reports.
    let t = c.in_ok-report_last-in-Delivery.ensures reports in
    (Of c.in-Delivery.delivered t.0, (c.finish.new.self, c.in-Delivery.ensures, t.1), t.2)

pub returns-in_ok-hear-in-Left : goal.returns-in_ok-hear-in-Left
returns-in_ok-hear-in-Left g c = λ reports.
    (Left c.in-Left.totals, c.in-Left.ensures, c.in_ok-hear-in-Left.ensures.ok reports)
