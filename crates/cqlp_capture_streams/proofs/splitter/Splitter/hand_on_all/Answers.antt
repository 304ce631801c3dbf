use Rattle.std.proofs.Common.{rules, Err, Ok, ◌≡◌, ◌++◌, [], ◌∷◌, refl}
use Rattle.cqlp_packet_order.specs.Packets.{packet_in}
use Rattle.cqlp_packet_order.specs.Orders.{first_left}
use Rattle.cqlp_packet_order.proofs.Windows.{first_leaves}
use Rattle.cqlp_capture_streams.proofs.Getting.{gets_others}
use Rattle.cqlp_capture_streams.proofs.Leaving.{each_more, fewer_wait, has_left}
use Rattle.cqlp_capture_streams.proofs.splitter.Splitter.hand_on_all.Goals as goal

pub returns-in_err-take_kept : goal.returns-in_err-take_kept
returns-in_err-take_kept g c =
    let is : c.from_residual.result ≡ Err c.in_err-take_kept.field-0.0 = search rules in
    rw is (λ reports.
    let before = c.loop-kept.invariant reports in
    let t = c.in_err-take_kept.ensures.reports before.3 in
    let p = packet_in c.in-Some.kept in
    let i = c.self.inside in
    let left = has_left first_left _ c.loop-kept.self c.take_kept.new.self i.connections i.order c.pop.new.self i.link i.time i.original i.counts p p t.0 c.self.view_is c.in-Some.ensures refl t.1 in (
      before.1 ++ t.0,
      (before.0, p, c.loop-kept.self, before.1, t.0, refl, before.2, left),
      gets_others g.L.Listener c.args.listener.now c.loop-kept.listener c.take_kept.new.listener before.1 t.0 (Err c.in_err-take_kept.field-0.0) before.4 t.2,
    ))

pub loop-kept-smaller : goal.loop-kept-smaller
loop-kept-smaller g c =
    let i = c.self.inside in
    fewer_wait first_left c.loop-kept.self c.take_kept.new.self i.connections i.order c.pop.new.self i.link i.time i.original i.counts (packet_in c.in-Some.kept) first_leaves c.self.view_is c.in-Some.ensures c.in_ok-take_kept.ensures.order

pub loop-kept-preserved : goal.loop-kept-preserved
loop-kept-preserved g c = λ reports.
    let before = c.loop-kept.invariant reports in
    let t = c.in_ok-take_kept.ensures.reports before.3 in
    let p = packet_in c.in-Some.kept in
    let i = c.self.inside in
    let left = has_left first_left _ c.loop-kept.self c.take_kept.new.self i.connections i.order c.pop.new.self i.link i.time i.original i.counts p p t.0 c.self.view_is c.in-Some.ensures refl t.1 in
    let all = gets_others g.L.Listener c.args.listener.now c.loop-kept.listener c.take_kept.new.listener before.1 t.0 (Ok tt) before.4 t.2 in
    (before.0 ++ p ∷ [], before.1 ++ t.0, each_more first_left _ c.loop-kept.self _ before.0 p before.1 t.0 before.2 left, all.0, all.1)
