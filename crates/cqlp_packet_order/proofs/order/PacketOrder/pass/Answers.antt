use Rattle.std.proofs.Common.{◌≡◌, ◌∙◌, length, map, true, false, sym, subst, arith}
use Rattle.std.proofs.lemmas.List.{length-map}
use Rattle.cqlp_packet_order.specs.Packets.{packet_in, packet_of}
use Rattle.cqlp_packet_order.specs.Orders.{Order}
use Rattle.cqlp_packet_order.proofs.Windows.{waits_alone, waits_behind}
use Rattle.cqlp_packet_order.proofs.order.PacketOrder.pass.Goals as goal
use Rattle.cqlp_packet_order.proofs.order.PacketOrder.pass.Goals.{then-len-ne0-via-then-len-ne0, then-len-ne0-via-else-len-ne0+then-not-is_due_alone}

pub returns-then-len-ne0-clause-value : goal.returns-then-len-ne0-clause-value
returns-then-len-ne0-clause-value g c =
    let all : c.len.result ≡ length (map packet_in c.self.inside.waiting.items) = omega (arith, length-map c.self.inside.waiting.items packet_in) in
    let count = subst (λ (o : Order). c.len.result ≡ length o.waiting) c.self.view_is all in
    elim c.then-len-ne0.branch [
      | then-len-ne0-via-then-len-ne0 w ↦ waits_behind (packet_of c.args.packet.now) c.args.self.now c.len.result w.if-len-ne0.true count
      | then-len-ne0-via-else-len-ne0+then-not-is_due_alone w ↦ waits_alone (packet_of c.args.packet.now) c.args.self.now false (sym w.if-len-ne0.false ∙ count) (sym w.if-not-is_due_alone.true ∙ w.is_due_alone.ensures)
    ]

pub returns-clause-value : goal.returns-clause-value
returns-clause-value g c =
    let all : c.len.result ≡ length (map packet_in c.self.inside.waiting.items) = omega (arith, length-map c.self.inside.waiting.items packet_in) in
    let count = subst (λ (o : Order). c.len.result ≡ length o.waiting) c.self.view_is all in
    waits_alone (packet_of c.args.packet.now) c.args.self.now true (sym c.if-len-ne0.false ∙ count) (sym c.if-not-is_due_alone.false ∙ c.is_due_alone.ensures)
