use Rattle.std.proofs.Common.{◌≡◌, ℕ, Err, sym, ap, subst, arith}
use Rattle.cqlp_decode.specs.declared.decoder.NewError.{NewError}
use Rattle.cqlp_decode.specs.declared.decoder.NewError.TheVariants as error
use Rattle.cqlp_c.specs.Course.{course_of_new}
use Rattle.cqlp_c.specs.Shown.{limits_of}
use Rattle.cqlp_c.proofs.Made.{is_empty, kept_course, made, not_made}
use Rattle.cqlp_c.proofs.handle.fill_handle.Goals as goal

pub returns-in-Ok-clause-makes : goal.returns-in-Ok-clause-makes
returns-in-Ok-clause-makes c =
    let old = c.args.decoder.now in
    let l = c.args.limits.now in
    made c.args.lenient (limits_of l) old.held.place.value c.holding-decoder.result.place.value c.in-Ok.boxed.value (is_empty old.held.place.value old.held.live old.held.agrees (omega (arith, c.if-decoder-ne0.false))) c.holding-decoder.ensures (rw c.limits_of.ensures at c.in-Ok.ensures.fresh)
    (λ b bad. absurd (let is = (c.in-Ok.ensures.bad b).1 (rw c.limits_of.ensures bad) in cc))

pub returns-in-Err-clause-makes : goal.returns-in-Err-clause-makes
returns-in-Err-clause-makes c =
    let old = c.args.decoder.now in
    let l = c.args.limits.now in
    rw c.error_code.ensures (not_made c.args.lenient (limits_of l) old.held.place.value c.in-Err.error (is_empty old.held.place.value old.held.live old.held.agrees (omega (arith, c.if-decoder-ne0.false))) (λ b. (
      λ same. rw c.limits_of.ensures at ((c.in-Err.ensures.bad b).0 (ap (λ (e : NewError). Err e) same)),
      λ bad. let is = (c.in-Err.ensures.bad b).1 (rw c.limits_of.ensures bad) in let same : c.in-Err.error ≡ error.BadLimits b = cc in same,
    )))

pub returns-in-Err-clause-course : goal.returns-in-Err-clause-course
returns-in-Err-clause-course c = subst (λ (n : ℕ). c.args.decoder.now.course ≡ course_of_new n c.args.decoder.now.course) (sym c.error_code.ensures) (sym (kept_course c.in-Err.error c.args.decoder.now.course))
