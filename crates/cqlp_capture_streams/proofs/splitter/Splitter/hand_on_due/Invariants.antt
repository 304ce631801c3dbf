use Rattle.std.proofs.Common.{◌≡◌, List, length}
use Rattle.cqlp_packet_order.specs.Packets as kept
use Rattle.cqlp_packet_order.specs.Orders.{due_left}
use Rattle.cqlp_capture_streams.specs.ConnectionEvents.{ConnectionEvent}
use Rattle.cqlp_capture_streams.specs.Listening.{after_all}
use Rattle.cqlp_capture_streams.specs.Packets.{HandsEach}
use Rattle.cqlp_capture_streams.proofs.splitter.Splitter.hand_on_due.Given as goal

-- the listener has got what the packets report that have left so far
abbrev pub invariant-loop-kept : goal.invariant-loop-kept
invariant-loop-kept g l =
    let m = g.L.Listener in
    m.reports l.fn.listener → (ps : List kept.Packet) × (ss : List ConnectionEvent)
    × HandsEach due_left l.fn.self ps ss l.self
    × m.reports l.listener × (m.view l.listener ≡ after_all m.after (m.view l.fn.listener) ss)

abbrev pub decreases-loop-kept : goal.decreases-loop-kept
decreases-loop-kept g l = length l.self.order.waiting
