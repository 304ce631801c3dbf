use Rattle.std.proofs.Common.{rules, Err, ◌≡◌, false, [], ◌∷◌}
use Rattle.cqlp_tcp_segment.specs.Segment.{seen}
use Rattle.cqlp_packet_order.specs.Packets.{packet_of}
use Rattle.cqlp_capture_streams.specs.ConnectionEvents.{Packet}
use Rattle.cqlp_capture_streams.specs.Reportings.{is_done}
use Rattle.cqlp_capture_streams.proofs.Getting.{gets_others, gets_single}
use Rattle.cqlp_capture_streams.proofs.Delivery.{timed, timed_fails}
use Rattle.cqlp_capture_streams.proofs.Leaving.{segment_read}
use Rattle.cqlp_capture_streams.proofs.splitter.Splitter.take_packet.Goals as goal

pub returns-in_err-hear-in-Ok-clause-reports : goal.returns-in_err-hear-in-Ok-clause-reports
returns-in_err-hear-in-Ok-clause-reports g c =
    let is : c.from_residual.result ≡ Err c.in_err-hear-in-Ok.field-0.0 = search rules in
    rw is (λ reports.
    let i = c.self.inside in
    let p = packet_of c.args.packet.now in
    let segment = seen c.in-Ok.segment in
    let one = Packet p.time in (
      one ∷ [],
      segment_read false c.args.self.now i.connections i.connections i.order i.link i.time i.original i.counts c.count_segment.new.self p segment c.is_snapped-is_snapped.result (one ∷ []) c.self.view_is c.in-Ok.ensures c.is_snapped-is_snapped.ensures c.count_segment.ensures (timed_fails p.time segment i.connections),
      gets_single g.L.Listener c.args.listener.now _ one (Err c.in_err-hear-in-Ok.field-0.0) (c.in_err-hear-in-Ok.ensures.err reports),
    ))

pub returns-in_ok-hear-in-Ok-clause-reports : goal.returns-in_ok-hear-in-Ok-clause-reports
returns-in_ok-hear-in-Ok-clause-reports g c = λ reports.
    let i = c.self.inside in
    let p = packet_of c.args.packet.now in
    let segment = seen c.in-Ok.segment in
    let one = Packet p.time in
    let all = is_done c.take_segment.result in
    let a = c.in_ok-hear-in-Ok.ensures.ok reports in
    let b = c.take_segment.ensures a.0 in (
      one ∷ b.0,
      segment_read all c.args.self.now i.connections c.take_segment.new.connections i.order i.link i.time i.original i.counts c.count_segment.new.self p segment c.is_snapped-is_snapped.result (one ∷ b.0) c.self.view_is c.in-Ok.ensures c.is_snapped-is_snapped.ensures c.count_segment.ensures (timed all p.time segment i.connections _ b.0 b.1),
      gets_others g.L.Listener c.args.listener.now c.hear.new.self _ (one ∷ []) b.0 _ a.1 b.2,
    )
