use Rattle.std.proofs.Common.{rules, Err, Ok, arith, ◌-◌, ◌^◌, ◌≡◌, [], ◌∷◌, ◌++◌, refl, inl}
use Rattle.cqlp_tcp_connections.specs.Tables.{left}
use Rattle.cqlp_capture_streams.specs.ConnectionEvents.{Of, Left}
use Rattle.cqlp_capture_streams.specs.Reportings.{StillReports}
use Rattle.cqlp_capture_streams.proofs.Paths.{path_more}
use Rattle.cqlp_capture_streams.proofs.Getting.{gets_more, heard, one_longer}
use Rattle.cqlp_capture_streams.proofs.Delivery.{parted, parted_none}
use Rattle.cqlp_capture_streams.proofs.reporting.leave.Goals as goal

pub loop-turn-preserved : goal.loop-turn-preserved
loop-turn-preserved g c = λ reports.
    let before = c.loop-turn.invariant reports in
    let t = c.in_ok-report_last-in-Delivery.ensures before.2 in
    let all = gets_more g.L.Listener c.args.listener.now c.loop-turn.listener c.report_last.new.listener before.0 (Of c.in-Delivery.delivered t.0) (Ok tt) before.3 t.2 in (
      before.0 ++ Of c.in-Delivery.delivered t.0 ∷ [],
      path_more (StillReports left) _ c.loop-turn.connections _ before.0 (Of c.in-Delivery.delivered t.0) before.1 (c.leave.new.self, c.in-Delivery.ensures, t.1),
      all.0,
      all.1,
      one_longer before.0 _ _ before.4,
    )

pub returns-in_err-report_last-in-Delivery : goal.returns-in_err-report_last-in-Delivery
returns-in_err-report_last-in-Delivery g c =
    let is : c.from_residual.result ≡ Err c.in_err-report_last-in-Delivery.field-0.0 = search rules in
    rw is (λ reports.
    let before = c.loop-turn.invariant reports in
    let t = c.in_err-report_last-in-Delivery.ensures before.2 in (
      before.0 ++ Of c.in-Delivery.delivered t.0 ∷ [],
      inl (path_more (StillReports left) _ c.loop-turn.connections _ before.0 (Of c.in-Delivery.delivered t.0) before.1 (c.leave.new.self, c.in-Delivery.ensures, t.1)),
      gets_more g.L.Listener c.args.listener.now c.loop-turn.listener c.report_last.new.listener before.0 (Of c.in-Delivery.delivered t.0) (Err c.in_err-report_last-in-Delivery.field-0.0) before.3 t.2,
    ))

pub returns-in-Left : goal.returns-in-Left
returns-in-Left g c = λ reports.
    let before = c.loop-turn.invariant reports in (
      before.0 ++ Left c.in-Left.totals ∷ [],
      parted _ _ c.loop-turn.connections _ before.0 c.in-Left.totals before.1 c.in-Left.ensures,
      gets_more g.L.Listener c.args.listener.now c.loop-turn.listener _ before.0 (Left c.in-Left.totals) _ before.3 (heard g.L.Listener c.loop-turn.listener _ (Left c.in-Left.totals) c.hear.result c.hear.ensures.ok c.hear.ensures.err before.2),
    )

pub returns-in-Empty : goal.returns-in-Empty
returns-in-Empty g c = λ reports.
    let before = c.loop-turn.invariant reports in
    (before.0, parted_none _ c.loop-turn.connections _ before.0 before.1 c.in-Empty.ensures, (before.2, before.3))

pub returns : goal.returns
returns g c = λ reports.
    let before = c.loop-turn.invariant reports in
    let all : c.loop-turn.turn ≡ 2 ^ 64 - 1 = omega arith in
    (before.0, inl before.1, inl (refl, omega (arith, before.4), before.3))
