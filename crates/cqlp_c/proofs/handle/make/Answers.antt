use Rattle.std.proofs.Common.{◌≡◌, Err, ap}
use Rattle.cqlp_decode.specs.declared.decoder.NewError.{NewError}
use Rattle.cqlp_decode.specs.declared.decoder.NewError.TheVariants as error
use Rattle.cqlp_c.proofs.handle.make.Goals as goal

pub returns-in-Ok-new-clause-bad : goal.returns-in-Ok-new-clause-bad
returns-in-Ok-new-clause-bad c = λ b. (λ is. absurd cc, λ bad. absurd (let is = (c.in-Ok.ensures.bad b).1 bad in cc))

pub returns-in-Ok-clause-bad : goal.returns-in-Ok-clause-bad
returns-in-Ok-clause-bad c = λ b. (λ is. absurd cc, λ bad. absurd (let is = (c.in-Ok.ensures.bad b).1 bad in cc))

pub returns-clause-bad : goal.returns-clause-bad
returns-clause-bad c = λ b. (
  λ is. let same : c.in-Err.error ≡ error.BadLimits b = cc in (c.in-Err.ensures.bad b).0 (ap (λ (e : NewError). Err e) same),
  λ bad. let is = (c.in-Err.ensures.bad b).1 bad in let same : c.in-Err.error ≡ error.BadLimits b = cc in ap (λ (e : NewError). Err e) same,
)
