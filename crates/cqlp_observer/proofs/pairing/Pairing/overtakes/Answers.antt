use Rattle.std.proofs.Common.{ap, ◌∙◌, Option, rules, w16, SFits}
use Rattle.std.proofs.lemmas.Int.{to_z-of_z}
use Rattle.cqlp_observer.specs.declared.message.Message.{Message}
use Rattle.cqlp_observer.specs.declared.pairing.Fate.{Fate}
use Rattle.cqlp_observer.specs.Messages.{id_of}
use Rattle.cqlp_observer.specs.Pairings.{fate_of, is_overtaken}
use Rattle.cqlp_observer.proofs.pairing.Pairing.overtakes.Goals as goal

pub returns : goal.returns
returns g c =
    let fits : SFits w16 c.stream.result = search rules in
    let placed = rw (to_z-of_z w16 c.stream.result fits, c.stream.ensures) at c.place-place.ensures in
    let found = c.at.ensures (id_of c.args.message.now) placed in
    c.is_overtaken.ensures ∙ ap (λ (f : Fate). is_overtaken f) (c.fate_of.ensures ∙ ap (λ (o : Option (Message g.row.T.Denot)). fate_of o c.args.message.now c.args.has_room) found)
