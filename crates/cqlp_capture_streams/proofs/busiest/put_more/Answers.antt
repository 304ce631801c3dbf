use Rattle.cqlp_text.proofs.Writing.{progress_goes_on, progress_stops}
use Rattle.cqlp_capture_streams.proofs.Ports.{ports_at}
use Rattle.cqlp_capture_streams.proofs.busiest.put_more.Goals as goal

pub returns-in_err-put_more_port : goal.returns-in_err-put_more_port
returns-in_err-put_more_port g c =
    progress_stops _ c.from_residual.result c.from_residual.ensures.0 c.loop-port.invariant (ports_at c.args.ports.now c.loop-port.port-index c.loop-port-test.true) c.in_err-put_more_port.ensures

pub loop-port-preserved : goal.loop-port-preserved
loop-port-preserved g c =
    progress_goes_on _ c.loop-port.invariant (ports_at c.args.ports.now c.loop-port.port-index c.loop-port-test.true) c.in_ok-put_more_port.ensures
