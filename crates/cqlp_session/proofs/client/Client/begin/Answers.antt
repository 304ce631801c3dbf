use Rattle.std.proofs.Common.{rules, sym, subst, ◌∙◌, w16, SFits}
use Rattle.std.proofs.lemmas.Int.{to_z-of_z}
use Rattle.cqlp_session.specs.Client.{ClientCore}
use Rattle.cqlp_session.specs.Slots.{IsLeastFree}
use Rattle.cqlp_session.proofs.Least.{least_found}
use Rattle.cqlp_session.proofs.client.Client.begin.Goals as goal

pub returns-clause-least : goal.returns-clause-least
returns-clause-least g c =
    let fits : SFits w16 c.in-Some.id = search rules in
    let least = least_found c.self.inside.streams c.in-Some.id (sym c.least_free.ensures ∙ c.in-Some.is) in
    rw (to_z-of_z w16 c.in-Some.id fits) (subst (λ (core : ClientCore). IsLeastFree core.slots c.in-Some.id) c.self.view_is least)
