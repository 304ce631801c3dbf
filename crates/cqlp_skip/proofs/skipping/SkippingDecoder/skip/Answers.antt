use Rattle.std.proofs.Common.{◌≡◌, Some, sym, ◌∙◌, subst}
use Rattle.cqlp_skip.specs.Skipping.{Skipping, AfterSkips}
use Rattle.cqlp_skip.specs.Stretches.{end_within}
use Rattle.cqlp_skip.proofs.Skips.{goes_behind}
use Rattle.cqlp_skip.proofs.skipping.SkippingDecoder.skip.Goals as goal

pub returns-clause-goes_on : goal.returns-clause-goes_on
returns-clause-goes_on g c = λ xs s stretches gifts events after.
    let d = c.self.inside in
    let a = subst (λ (z : Skipping). AfterSkips xs z s stretches gifts events) (sym c.self.view_is) after in
    let there : end_within c.in-Some.frame d.base d.used ≡ Some c.in-Some-end_within.end = sym c.end_within.ensures ∙ c.in-Some-end_within.is in
    rw (← c.self.view_is)
    (goes_behind d.decoder c.restart.new.self d.base d.used d.last c.stream_offset.result d.frame c.in-Some.frame c.in-Some-end_within.end c.in-Some.is c.finish.result c.in-Refused.refusal c.finish.ensures.refused c.finish.ensures.unrefused c.in-Refused.is there c.restart.ensures.fresh c.restart.ensures.unrefused c.restart.ensures.rules xs s stretches gifts events a)
