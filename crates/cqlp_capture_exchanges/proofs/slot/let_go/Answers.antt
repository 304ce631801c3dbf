use Rattle.std.proofs.Common.{◌≡◌, false, List, [], Option, Some, None, ap, refl, subst}
use Rattle.std.proofs.lemmas.Result.{err_from_is_err_and}
use Rattle.cqlp_observer.specs.Keeping.{Kept}
use Rattle.cqlp_observer.specs.declared.paired.Paired.{Paired}
use Rattle.cqlp_observer.specs.Watches.{finished, report_then}
use Rattle.cqlp_capture_exchanges.specs.Reports.{Report, messages}
use Rattle.cqlp_capture_exchanges.specs.Talks.{new_slot, remaining, talk}
use Rattle.cqlp_capture_exchanges.proofs.Talks.{go_next, go_none, hearing_ends, hearing_goes_on, hearing_known, hearing_starts, hearing_stops, next}
use Rattle.cqlp_capture_exchanges.proofs.slot.let_go.Goals as goal

pub loop-exchange-init : goal.loop-exchange-init
loop-exchange-init g c = λ known. hearing_starts _ _ _

pub loop-exchange-preserved : goal.loop-exchange-preserved
loop-exchange-preserved g c = λ known.
    let n = c.args.connection.now in
    let start = c.args.reporter.now in
    let w = c.loop-exchange.watch in
    let whole = talk (remaining c.args.end c.args.watch.now.waiting) new_slot in
    let rest = talk (remaining c.args.end w.waiting) new_slot in
    let held = c.loop-exchange.invariant known in
    let v = c.finish.new.self in
    let exchange = c.in-Some.exchange in
    let e : report_then (Some exchange) v ≡ finished w = subst (λ (o : Option (Paired Kept)). report_then o v ≡ finished w) c.in-Some.is c.finish.ensures in
    let ts = messages (Some c.args.end) (Some exchange) in
    let later = talk (remaining c.args.end v.waiting) new_slot in
    let is : rest ≡ next false ts new_slot later = ap (λ (z : List Report). talk z new_slot) (go_next c.args.end w v exchange e) in
    hearing_goes_on n start c.loop-exchange.reporter c.report_last.new.reporter whole rest later false ts new_slot held is refl (c.in_ok-report_last.ensures (hearing_known n start c.loop-exchange.reporter whole rest held known))

pub returns-in_err-report_last : goal.returns-in_err-report_last
returns-in_err-report_last g c = λ known.
    let n = c.args.connection.now in
    let start = c.args.reporter.now in
    let w = c.loop-exchange.watch in
    let whole = talk (remaining c.args.end c.args.watch.now.waiting) new_slot in
    let rest = talk (remaining c.args.end w.waiting) new_slot in
    let held = c.loop-exchange.invariant known in
    let v = c.finish.new.self in
    let exchange = c.in-Some.exchange in
    let e : report_then (Some exchange) v ≡ finished w = subst (λ (o : Option (Paired Kept)). report_then o v ≡ finished w) c.in-Some.is c.finish.ensures in
    let ts = messages (Some c.args.end) (Some exchange) in
    let later = talk (remaining c.args.end v.waiting) new_slot in
    let is : rest ≡ next false ts new_slot later = ap (λ (z : List Report). talk z new_slot) (go_next c.args.end w v exchange e) in
    let p = err_from_is_err_and c.from_residual.result c.from_residual.ensures.1 in
    rw (p.1, p.2) (hearing_stops n start c.loop-exchange.reporter c.report_last.new.reporter whole rest later false ts new_slot _ held is (c.in_err-report_last.ensures (hearing_known n start c.loop-exchange.reporter whole rest held known)))

pub returns : goal.returns
returns g c = λ known.
    let n = c.args.connection.now in
    let start = c.args.reporter.now in
    let w = c.loop-exchange.watch in
    let whole = talk (remaining c.args.end c.args.watch.now.waiting) new_slot in
    let rest = talk (remaining c.args.end w.waiting) new_slot in
    let held = c.loop-exchange.invariant known in
    let v = c.finish.new.self in
    let e : report_then None v ≡ finished w = subst (λ (o : Option (Paired Kept)). report_then o v ≡ finished w) c.in_default.is c.finish.ensures in
    let none : rest ≡ talk [] new_slot = ap (λ (z : List Report). talk z new_slot) (go_none c.args.end w v e) in
    (hearing_ends n start c.loop-exchange.reporter whole rest new_slot held none).0
