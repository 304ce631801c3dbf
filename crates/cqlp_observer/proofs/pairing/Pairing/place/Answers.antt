use Rattle.std.proofs.Common.{sym, rules, w16, SFits}
use Rattle.std.proofs.lemmas.Int.{to_z-of_z}
use Rattle.cqlp_observer.proofs.Places.{placed}
use Rattle.cqlp_observer.proofs.pairing.Pairing.place.Goals as goal

pub returns : goal.returns
returns g c =
    let fits : SFits w16 c.args.id = search rules in
    let found = rw (to_z-of_z w16 c.args.id fits) at c.place_in.ensures.found in
    let none = rw (to_z-of_z w16 c.args.id fits) at c.place_in.ensures.none in
    placed c.self.inside.waiting.items c.args.id c.place_in.result c.args.self.now (sym c.self.view_is) found none
