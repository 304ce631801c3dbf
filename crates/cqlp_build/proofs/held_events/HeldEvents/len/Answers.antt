use Rattle.std.proofs.Common.{◌≡◌, ap, arith, length, sym}
use Rattle.std.proofs.lemmas.Grind.{common_steps}
use Rattle.cqlp_build.specs.Run.{held_items}
use Rattle.cqlp_build.proofs.Plain.{held_length}
use Rattle.cqlp_build.proofs.held_events.HeldEvents.len.Goals as goal

pub returns : goal.returns
returns c =
    let same : length c.args.self.now.items ≡ length (held_items c.self.inside) = ap (λ x. length x.items) (sym c.self.view_is) in
    let n = held_length c.self.inside in
    grind (arith, common_steps, same, n)
