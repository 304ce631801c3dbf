use Rattle.std.proofs.Common.{◌≡◌, Err, ap, ◌∙◌}
use Rattle.cqlp_decode.specs.declared.decoder.NewError.{NewError}
use Rattle.cqlp_decode.specs.declared.decoder.NewError.TheVariants as error
use Rattle.cqlp_decode.specs.Streams.{state}
use Rattle.cqlp_c.specs.Shown.{limits_of}
use Rattle.cqlp_c.proofs.Checked.{checked, not_checked, verdict}
use Rattle.cqlp_c.proofs.check.cqlp_check.Goals as goal

pub returns-in-Ok : goal.returns-in-Ok
returns-in-Ok c =
    let l = limits_of c.args.limits.now in
    let new = state c.drain.new.decoder in
    let rules = c.drain.ensures.rules ∙ (rw c.limits_of.ensures at c.in-Ok.ensures.rules) in
    checked l (λ b bad. absurd (let is = (c.in-Ok.ensures.bad b).1 (rw c.limits_of.ensures bad) in cc)) c.args.stream.now c.finish.result c.args.end.now c.end_of.result c.end_of.ensures
    (verdict l new c.args.stream.now c.finish.result rules (rw c.or_none.ensures.bytes at (c.drain.ensures.drains c.in-Ok.ensures.unrefused c.in-Ok.ensures.fresh)) c.finish.ensures.ends c.finish.ensures.refused)

pub returns-in-Err : goal.returns-in-Err
returns-in-Err c = rw c.error_code.ensures (not_checked (limits_of c.args.limits.now) c.in-Err.error (λ b. (
  λ same. rw c.limits_of.ensures at ((c.in-Err.ensures.bad b).0 (ap (λ (e : NewError). Err e) same)),
  λ bad. let is = (c.in-Err.ensures.bad b).1 (rw c.limits_of.ensures bad) in let same : c.in-Err.error ≡ error.BadLimits b = cc in same,
)) c.args.stream.now c.args.end.now)
