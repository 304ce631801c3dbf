use Rattle.std.proofs.Common.{rules, Err, Ok, Option, arith, inl, refl, length, ◌-◌, ◌^◌, ◌≡◌, [], ◌∷◌, ◌++◌, subst, sym}
use Rattle.cqlp_tcp_segment.specs.Segment.{seen}
use Rattle.cqlp_tcp_connections.specs.declared.delivery.Delivery.{Delivery}
use Rattle.cqlp_tcp_connections.specs.Tables.{IsDeliveryWithin, pulled, pulling}
use Rattle.cqlp_capture_streams.specs.ConnectionEvents.{Of}
use Rattle.cqlp_capture_streams.specs.Reportings.{Pulls}
use Rattle.cqlp_capture_streams.proofs.Paths.{path_more}
use Rattle.cqlp_capture_streams.proofs.Getting.{gets_more, one_longer}
use Rattle.cqlp_capture_streams.proofs.reporting.pull_all.Goals as goal

pub report-requires : goal.report-requires
report-requires g c = subst (λ (z : Option Delivery). IsDeliveryWithin z (length c.args.segment.now.payload.now)) c.in-Some.is c.in-Ok.ensures.within

pub loop-turn-preserved : goal.loop-turn-preserved
loop-turn-preserved g c = λ reports.
    let before = c.loop-turn.invariant reports in
    let t = c.in_ok-report.ensures before.2 in
    let pull = subst (λ (z : Option Delivery). pulling z c.pull.new.self ≡ pulled (seen c.args.segment.now) c.args.time c.loop-turn.connections) c.in-Some.is c.in-Ok.ensures.delivered in
    let all = gets_more g.L.Listener c.args.listener.now c.loop-turn.listener c.report.new.listener before.0 (Of c.in-Some.delivered t.0) (Ok tt) before.3 t.2 in (
      before.0 ++ Of c.in-Some.delivered t.0 ∷ [],
      path_more (Pulls (seen c.args.segment.now) c.args.time) _ c.loop-turn.connections _ before.0 (Of c.in-Some.delivered t.0) before.1 (c.pull.new.self, pull, t.1),
      all.0,
      all.1,
      one_longer before.0 _ _ before.4,
    )

pub returns-in_err-report : goal.returns-in_err-report
returns-in_err-report g c =
    let is : c.from_residual.result ≡ Err c.in_err-report.field-0.0 = search rules in
    rw is (λ reports.
    let before = c.loop-turn.invariant reports in
    let t = c.in_err-report.ensures before.2 in
    let pull = subst (λ (z : Option Delivery). pulling z c.pull.new.self ≡ pulled (seen c.args.segment.now) c.args.time c.loop-turn.connections) c.in-Some.is c.in-Ok.ensures.delivered in (
      before.0 ++ Of c.in-Some.delivered t.0 ∷ [],
      inl (path_more (Pulls (seen c.args.segment.now) c.args.time) _ c.loop-turn.connections _ before.0 (Of c.in-Some.delivered t.0) before.1 (c.pull.new.self, pull, t.1)),
      gets_more g.L.Listener c.args.listener.now c.loop-turn.listener c.report.new.listener before.0 (Of c.in-Some.delivered t.0) (Err c.in_err-report.field-0.0) before.3 t.2,
    ))

pub returns : goal.returns
returns g c = λ reports.
    let before = c.loop-turn.invariant reports in
    let all : c.loop-turn.turn ≡ 2 ^ 64 - 1 = omega arith in
    (before.0, inl before.1, inl (refl, omega (arith, before.4), before.3))

pub returns-then-is_done-2 : goal.returns-then-is_done-2
returns-then-is_done-2 g c = λ reports.
    let before = c.loop-turn.invariant reports in
    let t = c.in_ok-report.ensures before.2 in
    let pull = subst (λ (z : Option Delivery). pulling z c.pull.new.self ≡ pulled (seen c.args.segment.now) c.args.time c.loop-turn.connections) c.in-Some.is c.in-Ok.ensures.delivered in
    let all = gets_more g.L.Listener c.args.listener.now c.loop-turn.listener c.report.new.listener before.0 (Of c.in-Some.delivered t.0) (Ok tt) before.3 t.2 in (
      before.0 ++ Of c.in-Some.delivered t.0 ∷ [],
      (
        c.report.new.connections,
        path_more (Pulls (seen c.args.segment.now) c.args.time) _ c.loop-turn.connections _ before.0 (Of c.in-Some.delivered t.0) before.1 (c.pull.new.self, pull, t.1),
        sym (c.is_done-then-is_payload.ensures c.if-is_done-2.true),
      ),
      all,
    )
