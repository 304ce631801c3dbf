use Rattle.std.proofs.Common.{◌≡◌, refl}
use Rattle.cqlp_decode.specs.declared.decoder.NewError.TheVariants as errors
use Rattle.cqlp_skip.proofs.Skips.{starts}
use Rattle.cqlp_skip.proofs.skipping.SkippingDecoder.lenient.Goals as goal

pub returns-in-Ok-clause-fresh : goal.returns-in-Ok-clause-fresh
returns-in-Ok-clause-fresh g c = λ xs. rw c.around.ensures (starts c.in-Ok.decoder xs c.in-Ok.ensures.fresh c.in-Ok.ensures.unrefused)

pub returns-in-Ok-clause-bad : goal.returns-in-Ok-clause-bad
returns-in-Ok-clause-bad g c = λ b. (λ is. absurd cc, λ bad. absurd (let is = (c.in-Ok.ensures.bad b).1 bad in cc))

pub returns-in-Err-clause-bad : goal.returns-in-Err-clause-bad
returns-in-Err-clause-bad g c = λ b. (
  λ is. let same : c.in-Err.error ≡ errors.BadLimits b = cc in (c.in-Err.ensures.bad b).0 (rw same refl),
  λ bad. let is = (c.in-Err.ensures.bad b).1 bad in let same : c.in-Err.error ≡ errors.BadLimits b = cc in rw same refl,
)
