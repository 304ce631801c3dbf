use Rattle.std.proofs.Common.{◌≡◌, ◌∙◌, ◌-◌, ◌+◌, length, ap, subst, arith}
use Rattle.cqlp_packet_order.specs.Orders.{Order, is_due}
use Rattle.cqlp_packet_order.proofs.Windows.{due_is}
use Rattle.cqlp_packet_order.proofs.order.PacketOrder.is_due.Goals as goal

pub returns : goal.returns
returns g c =
    let is : c.len-count.result ≡ length c.self.inside.waiting.items = omega arith in
    let some : c.len-count.result - 1 + 1 ≡ length c.self.inside.waiting.items = omega arith in
    subst (λ (o : Order). c.must_leave.result ≡ is_due o) c.self.view_is (c.must_leave.ensures ∙ due_is c.self.inside.limits c.self.inside.passed c.len-count.result c.self.inside.held c.index.result.now.time c.index-2.result.now.time c.self.inside.waiting.items (c.len-count.result - 1) c.index.result.now c.index-2.result.now is some c.self.invariant (ap (λ k. k.time) c.index.ensures) (ap (λ k. k.time) c.index-2.ensures))
