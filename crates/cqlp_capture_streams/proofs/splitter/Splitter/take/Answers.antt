use Rattle.cqlp_capture_streams.specs.Reportings.{is_done}
use Rattle.cqlp_capture_streams.proofs.Leaving.{passed_over}
use Rattle.cqlp_capture_streams.proofs.splitter.Splitter.take.Goals as goal

pub returns-then-pass : goal.returns-then-pass
returns-then-pass g c = rw c.in-Data.is (λ reports.
    let i = c.self.inside in
    let a = c.take_packet.ensures.reports reports in
    (a.0, passed_over (is_done c.take_packet.result) c.args.self.now c.take_packet.new.self i.connections i.order c.pass.new.self i.link i.time i.original i.counts c.in-Data.bytes.now a.0 c.pass.result c.self.view_is c.if-pass.true c.pass.ensures.value c.pass.ensures.after c.take_packet.ensures.order a.1, a.2))
