use Rattle.std.proofs.Common.{arith, ◌+◌, ◌-◌, drop, take, ap, refl, sym, subst}
use Rattle.cqlp_tcp_reassembly.specs.declared.step.StreamStep.{StreamStep}
use Rattle.cqlp_capture_streams.specs.ConnectionEvents.{Of}
use Rattle.cqlp_capture_streams.specs.Reportings.{HandsOn}
use Rattle.cqlp_capture_streams.proofs.Getting.{heard}
use Rattle.cqlp_capture_streams.proofs.reporting.report.Goals as goal

pub returns-in-Payload : goal.returns-in-Payload
returns-in-Payload g c = λ reports.
    let s = c.in-Payload in
    let behind = drop s.from c.args.payload.now in
    let bytes = take (s.from + s.count - s.from) behind in
    let same = ap (λ n. take n behind) (omega arith) in (
      bytes,
      subst (λ (z : StreamStep). HandsOn z c.args.delivered.way c.args.payload.now c.args.connections.now bytes c.args.connections.now) (sym s.is) (same, refl),
      heard g.L.Listener c.args.listener.now _ (Of c.args.delivered bytes) c.hear.result c.hear.ensures.ok c.hear.ensures.err reports,
    )
