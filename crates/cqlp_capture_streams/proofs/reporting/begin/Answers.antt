use Rattle.cqlp_capture_streams.specs.ConnectionEvents.{New}
use Rattle.cqlp_capture_streams.proofs.Getting.{gets_single, heard}
use Rattle.cqlp_capture_streams.proofs.reporting.begin.Goals as goal

pub returns-then-is_new : goal.returns-then-is_new
returns-then-is_new g c = λ reports.
    let m = g.L.Listener in
    let new = New c.args.number in
    rw c.if-is_new.true (gets_single m c.args.listener.now _ new c.hear.result (heard m c.args.listener.now _ new c.hear.result c.hear.ensures.ok c.hear.ensures.err reports))
