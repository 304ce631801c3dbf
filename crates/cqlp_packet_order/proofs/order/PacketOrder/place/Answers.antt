use Rattle.std.proofs.Common.{◌≡◌, ◌≤◌, ◌∙◌, ◌-◌, suc, true, length, drop, sym, subst, arith}
use Rattle.cqlp_packet_order.specs.Orders.{Order, are_later, place}
use Rattle.cqlp_packet_order.proofs.Windows.{found, later_too, place_first}
use Rattle.cqlp_packet_order.proofs.order.PacketOrder.place.Goals as goal

pub loop-at-preserved : goal.loop-at-preserved
loop-at-preserved g c =
    let next : c.loop-at.at ≡ suc (c.loop-at.at - 1) = omega arith in
    let within = subst (λ (o : Order). c.loop-at.at ≤ length o.waiting) (sym c.self.view_is) c.loop-at.invariant.within in
    let later = subst (λ (o : Order). are_later c.args.time (drop c.loop-at.at o.waiting) ≡ true) (sym c.self.view_is) c.loop-at.invariant.later in
    record {
      within = omega arith;
      later = subst (λ (o : Order). are_later c.args.time (drop (c.loop-at.at - 1) o.waiting) ≡ true) c.self.view_is (later_too c.args.time c.self.inside.waiting.items c.loop-at.at (c.loop-at.at - 1) c.index.result.now next within c.index.ensures (sym c.is_later.ensures ∙ c.if-is_later.true) later);
    }

pub returns-else-is_later : goal.returns-else-is_later
returns-else-is_later g c =
    let next : c.loop-at.at ≡ suc (c.loop-at.at - 1) = omega arith in
    let within = subst (λ (o : Order). c.loop-at.at ≤ length o.waiting) (sym c.self.view_is) c.loop-at.invariant.within in
    let later = subst (λ (o : Order). are_later c.args.time (drop c.loop-at.at o.waiting) ≡ true) (sym c.self.view_is) c.loop-at.invariant.later in
    subst (λ (o : Order). c.loop-at.at ≡ place c.args.time o.waiting) c.self.view_is (found c.args.time c.self.inside.waiting.items c.loop-at.at (c.loop-at.at - 1) c.index.result.now next within c.index.ensures (sym c.is_later.ensures ∙ c.if-is_later.false) later)

pub returns-after-loop-at : goal.returns-after-loop-at
returns-after-loop-at g c =
    let none : c.loop-at.at ≡ 0 = omega arith in
    let later = subst (λ n. are_later c.args.time (drop n c.args.self.now.waiting) ≡ true) none c.loop-at.invariant.later in
    none ∙ place_first c.args.time c.args.self.now.waiting later
