use Rattle.std.proofs.Common.{◌++◌, refl}
use Rattle.cqlp_tcp_segment.specs.Segment.{seen}
use Rattle.cqlp_tcp_connections.specs.declared.delivery.Admission.TheVariants as admission
use Rattle.cqlp_capture_streams.specs.Reportings.{beginning, is_done}
use Rattle.cqlp_capture_streams.proofs.Getting.{gets_others}
use Rattle.cqlp_capture_streams.proofs.Delivery.{crowded_first, taken_first}
use Rattle.cqlp_capture_streams.proofs.reporting.take_segment.Goals as goal

pub returns-in_ok-begin-in-Ok-Taken : goal.returns-in_ok-begin-in-Ok-Taken
returns-in_ok-begin-in-Ok-Taken g c = λ reports.
    let s = c.in-Ok-Taken in
    let took = rw s.field-0-is at s.ensures.taken in
    let first = beginning s.is_new s.number in
    let a = c.in_ok-begin-in-Ok-Taken.ensures reports in
    let b = c.pull_all.ensures a.0 in (
      first ++ b.0,
      taken_first (is_done c.pull_all.result) (seen c.args.segment.now) c.args.time c.args.connections.now _ (first ++ b.0) (admission.Taken s.number s.field-0-1 s.is_new, c.take.new.self, took, (b.0, refl, b.1)),
      gets_others g.L.Listener c.args.listener.now _ _ first b.0 _ a.1 b.2,
    )

pub returns-in_ok-leave-in-Ok-Crowded : goal.returns-in_ok-leave-in-Ok-Crowded
returns-in_ok-leave-in-Ok-Crowded g c = λ reports.
    let s = c.in-Ok-Crowded in
    let took = rw s.field-0-is at s.ensures.taken in
    let a = c.in_ok-leave-in-Ok-Crowded.ensures reports in
    let b = c.take_again.ensures a.2.0 in
    let all = is_done c.take_again.result in
    let rest = crowded_first s.field-0-0 s.field-0-1 all (seen c.args.segment.now) c.args.time c.take.new.self c.leave.new.connections _ a.0 b.0 a.1 b.1 in (
      a.0 ++ b.0,
      taken_first all (seen c.args.segment.now) c.args.time c.args.connections.now _ (a.0 ++ b.0) (admission.Crowded s.field-0-0 s.field-0-1, c.take.new.self, took, rest),
      gets_others g.L.Listener c.args.listener.now _ _ a.0 b.0 _ a.2.1 b.2,
    )
