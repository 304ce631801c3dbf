use Rattle.std.proofs.Common.{rules, Err, ◌≡◌}
use Rattle.cqlp_capture_streams.proofs.Events.{ends_err, ends_ok}
use Rattle.cqlp_capture_streams.proofs.running.end_all.Goals as goal

pub returns-in_err-finish-clause-ends : goal.returns-in_err-finish-clause-ends
returns-in_err-finish-clause-ends g c =
    let is : c.from_residual.result ≡ Err c.in_err-finish.field-0.0 = search rules in
    rw is (λ t turns made before s read k h at.
    let a = c.in_err-finish.ensures k in
    ends_err g.L.Listener.after g.L.Listener.faulted t turns made before s read c.args.reader.now _ _ _ _ c.finish-end.result _ a.0 h at c.finish-end.ensures.is c.finish-end.ensures.ends a.1 a.2)

pub returns-clause-ends : goal.returns-clause-ends
returns-clause-ends g c = λ t turns made before s read k h at.
    let a = c.in_ok-finish.ensures k in
    ends_ok g.L.Listener.after g.L.Listener.faulted t turns made before s read c.args.reader.now _ _ _ _ c.finish-end.result a.0 h at c.finish-end.ensures.is c.finish-end.ensures.ends a.1 a.2.1
