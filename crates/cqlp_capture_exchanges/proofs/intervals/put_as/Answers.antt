use Rattle.cqlp_capture_exchanges.proofs.intervals.put_as.Goals as goal

pub returns-in-Json : goal.returns-in-Json
returns-in-Json g c = rw c.in-Json.is (rw c.others.ensures at c.put_interval_object.ensures)
