use Rattle.std.proofs.Common.{rules, Err, Ok, arith, inl, refl, ◌-◌, ◌^◌, ◌≡◌, ◌∙◌, [], ◌∷◌, ◌++◌, sym, ap, subst}
use Rattle.cqlp_capture_streams.specs.Reportings.{Departs}
use Rattle.cqlp_capture_streams.proofs.Paths.{path_more}
use Rattle.cqlp_capture_streams.proofs.Getting.{gets_more, one_longer}
use Rattle.cqlp_capture_streams.proofs.Delivery.{no_more, one_more}
use Rattle.cqlp_capture_streams.proofs.reporting.finish_all.Goals as goal

pub returns-in_err-is_done : goal.returns-in_err-is_done
returns-in_err-is_done g c =
    let is : c.from_residual.result ≡ Err c.in_err-is_done.field-0.0 = search rules in
    rw is (λ reports.
    let before = c.loop-turn.invariant reports in
    let t = c.in_err-is_done.ensures before.2 in (
      before.0 ++ t.0 ∷ [],
      path_more Departs _ c.loop-turn.connections _ before.0 t.0 before.1 t.1,
      gets_more g.L.Listener c.args.listener.now c.loop-turn.listener c.finish_one.new.listener before.0 t.0 (Err c.in_err-is_done.field-0.0) before.3 t.2,
    ))

pub returns-then-is_done : goal.returns-then-is_done
returns-then-is_done g c = λ reports.
    let before = c.loop-turn.invariant reports in
    let t = no_more g.L.Listener c.in_ok-is_done.is_done _ _ _ _ c.if-is_done.true (c.in_ok-is_done.ensures before.2) in
    (before.0, (c.loop-turn.connections, before.1, t.0), (subst g.L.Listener.reports (sym t.1) before.2, ap g.L.Listener.view t.1 ∙ before.3))

pub loop-turn-preserved : goal.loop-turn-preserved
loop-turn-preserved g c = λ reports.
    let before = c.loop-turn.invariant reports in
    let t = one_more g.L.Listener c.in_ok-is_done.is_done _ _ _ _ c.if-is_done.false (c.in_ok-is_done.ensures before.2) in
    let all = gets_more g.L.Listener c.args.listener.now c.loop-turn.listener c.finish_one.new.listener before.0 t.0 (Ok tt) before.3 t.2 in (
      before.0 ++ t.0 ∷ [],
      path_more Departs _ c.loop-turn.connections _ before.0 t.0 before.1 t.1,
      all.0,
      all.1,
      one_longer before.0 _ _ before.4,
    )

pub returns : goal.returns
returns g c = λ reports.
    let before = c.loop-turn.invariant reports in
    let all : c.loop-turn.turn ≡ 2 ^ 64 - 1 = omega arith in
    (before.0, before.1, inl (refl, omega (arith, before.4), before.3))
