use Rattle.std.proofs.Common.{◌≡◌, ◌≤◌, true, length, drop}
use Rattle.cqlp_packet_order.specs.Orders.{are_later}
use Rattle.cqlp_packet_order.proofs.order.PacketOrder.place.Given as goal

-- those from there on are later
abbrev pub invariant-loop-at : goal.invariant-loop-at
invariant-loop-at g l = record {
  within : l.at ≤ length l.self.waiting;
  later : are_later l.time (drop l.at l.self.waiting) ≡ true;
}

abbrev pub decreases-loop-at : goal.decreases-loop-at
decreases-loop-at g l = l.at
