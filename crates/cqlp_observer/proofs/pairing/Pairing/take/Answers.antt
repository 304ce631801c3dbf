use Rattle.std.proofs.Common.{refl, rules, w16, SFits}
use Rattle.std.proofs.lemmas.Int.{to_z-of_z}
use Rattle.cqlp_observer.proofs.pairing.Pairing.take.Goals as goal

pub take_at-requires : goal.take_at-requires
take_at-requires g c =
    let fits : SFits w16 c.stream.result = search rules in
    record { placed = rw (to_z-of_z w16 c.stream.result fits, c.stream.ensures) at c.place-place.ensures; none = refl }
