use Rattle.std.proofs.Common.{drop, subst}
use Rattle.cqlp_decode.specs.Streams.{state}
use Rattle.cqlp_skip.specs.Giving.{GivesBack, TakesAlso}
use Rattle.cqlp_skip.specs.Skipping.{Skipping}
use Rattle.cqlp_skip.proofs.Feeding.{skipping}
use Rattle.cqlp_skip.proofs.Giving.{left_refusal, left_rules, takes_on}
use Rattle.cqlp_skip.proofs.skipping.SkippingDecoder.take_given.Goals as goal

pub returns-clause-after : goal.returns-clause-after
returns-clause-after g c =
    let d = c.self.inside in
    let left = c.take_given.ensures.left in
    let new = skipping c.take_given.new.self d.base d.used d.frame d.last in
    subst (λ (z : Skipping). TakesAlso c.take_given.result z new) c.self.view_is
    (takes_on d.decoder c.take_given.new.self d.base d.used d.last d.frame (left_refusal c.take_given.result (state d.decoder) (state c.take_given.new.self) left) (left_rules c.take_given.result (state d.decoder) (state c.take_given.new.self) left) c.take_given.result c.take_given.ensures.after)

pub returns-clause-refused : goal.returns-clause-refused
returns-clause-refused g c =
    let d = c.self.inside in
    subst (λ (z : Skipping). GivesBack c.take_given.result z) c.self.view_is
    (λ r xs s stretches gifts es is a. c.take_given.ensures.refused r gifts (drop d.base s) es is a.conforms)
