use Rattle.std.proofs.Common.{◌++◌, refl}
use Rattle.cqlp_tcp_segment.specs.Segment.{seen}
use Rattle.cqlp_tcp_connections.specs.declared.delivery.Admission.TheVariants as admission
use Rattle.cqlp_capture_streams.specs.Reportings.{beginning, is_done}
use Rattle.cqlp_capture_streams.proofs.Getting.{gets_others}
use Rattle.cqlp_capture_streams.proofs.Delivery.{taken_again}
use Rattle.cqlp_capture_streams.proofs.reporting.take_again.Goals as goal

pub returns-in_ok-begin-in-Ok-Taken : goal.returns-in_ok-begin-in-Ok-Taken
returns-in_ok-begin-in-Ok-Taken g c = λ reports.
    let s = c.in-Ok-Taken in
    let took = rw s.field-0-is at s.ensures.taken in
    let first = beginning s.is_new s.number in
    let a = c.in_ok-begin-in-Ok-Taken.ensures reports in
    let b = c.pull_all.ensures a.0 in (
      first ++ b.0,
      taken_again (is_done c.pull_all.result) (seen c.args.segment.now) c.args.time c.args.connections.now _ (first ++ b.0) (admission.Taken s.number s.field-0-1 s.is_new, c.take.new.self, took, (b.0, refl, b.1)),
      gets_others g.L.Listener c.args.listener.now _ _ first b.0 _ a.1 b.2,
    )
