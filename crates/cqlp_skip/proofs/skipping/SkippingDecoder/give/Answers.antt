use Rattle.std.proofs.Common.{ap, subst}
use Rattle.cqlp_kind.specs.Types.{types_of}
use Rattle.cqlp_decode.specs.Progress.{StreamState}
use Rattle.cqlp_decode.specs.Reading.{Gives}
use Rattle.cqlp_skip.specs.Giving.{GivesAlso}
use Rattle.cqlp_skip.specs.Skipping.{Skipping}
use Rattle.cqlp_skip.proofs.Feeding.{skipping}
use Rattle.cqlp_skip.proofs.Giving.{gives_on}
use Rattle.cqlp_skip.proofs.skipping.SkippingDecoder.give.Goals as goal

pub returns-clause-after : goal.returns-clause-after
returns-clause-after g c = λ none.
    let d = c.self.inside in
    let new = skipping c.give.new.self d.base d.used d.frame d.last in
    let clear = rw (← c.self.view_is) at none in
    let is = (c.give.ensures.taken clear).1 in
    subst (λ (z : Skipping). GivesAlso (Gives (types_of c.args.table.nodes)) z new) c.self.view_is
    (gives_on d.decoder c.give.new.self d.base d.used d.last d.frame (ap (λ (z : StreamState). z.refusal) is) (ap (λ (z : StreamState). z.rules) is) (Gives (types_of c.args.table.nodes)) (c.give.ensures.after clear))
