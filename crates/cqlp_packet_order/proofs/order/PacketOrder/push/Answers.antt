use Rattle.std.proofs.Common.{◌≡◌, ◌∙◌, ◌≤◌, ◌==◌, length, sym, ap, subst, arith}
use Rattle.std.proofs.lemmas.List.{length-map}
use Rattle.cqlp_packet_order.specs.Packets.{packet_in, packet_of}
use Rattle.cqlp_packet_order.specs.Orders.{Order, counted_by, is_off, place}
use Rattle.cqlp_packet_order.proofs.Windows.{has_arrived, more_held, place_within}
use Rattle.cqlp_packet_order.proofs.order.PacketOrder.push.Goals as goal

pub insert-requires : goal.insert-requires
insert-requires g c =
    let within = place_within c.args.packet.now.time c.args.self.now.waiting in
    let there = subst (λ (o : Order). place c.args.packet.now.time c.args.self.now.waiting ≤ length o.waiting) (sym c.self.view_is) within in
    omega (arith, there, length-map c.self.inside.waiting.items packet_in, c.place-at.ensures)

pub invariant_of-self-2 : goal.invariant_of-self-2
invariant_of-self-2 g c = more_held c.self.inside.waiting.items c.insert.new.self.items c.place-at.result c.self.inside.held c.in-Some.held c.in_ok-kept.kept (packet_of c.args.packet.now) c.self.invariant c.in-Ok.ensures.items c.in_ok-kept.ensures c.in-Some.ensures.1

pub returns : goal.returns
returns g c =
    let many : c.len.result ≡ length c.self.inside.waiting.items = omega arith in
    has_arrived c.args.self.now c.self.inside.limits c.self.inside.waiting.items c.insert.new.self.items c.self.inside.passed c.place-at.result c.len.result c.self.inside.counts c.count.new.self c.in_ok-kept.kept (packet_of c.args.packet.now) c.self.view_is c.in-Ok.ensures.items c.in_ok-kept.ensures c.place-at.ensures many (c.count.ensures ∙ ap (λ b. counted_by b (c.place-at.result == c.len.result) (is_off c.self.inside.limits) c.self.inside.counts) c.is_late.ensures)
