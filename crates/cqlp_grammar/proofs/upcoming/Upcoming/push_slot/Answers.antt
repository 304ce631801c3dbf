use Rattle.std.proofs.Common.{◌≡◌, ◌+◌, ◌≤◌, length, arith, rules}
use Rattle.std.proofs.lemmas.List.{length-take-le}
use Rattle.cqlp_grammar.specs.Upcoming.{need}
use Rattle.cqlp_grammar.proofs.Stack.{one_needed, pushed-is, pushed-fits}
use Rattle.cqlp_grammar.proofs.upcoming.Upcoming.push_slot.Goals as goal

pub invariant_of-self : goal.invariant_of-self
invariant_of-self c =
    let long : length c.self.inside.slots ≡ 16 = search rules in
    let height = length-take-le c.self.inside.len c.self.inside.slots (omega (arith, c.self.invariant.0)) in
    let room : c.self.inside.len + need c.args.slot ≤ 16 = rw (← c.self.view_is, height) at c.requires.room in
    let one = one_needed c.args.slot in
    (omega arith, pushed-fits _ _ _ (omega arith) c.self.invariant.1 c.requires.lawful room)

pub returns : goal.returns
returns c =
    let long : length c.self.inside.slots ≡ 16 = search rules in
    let height = length-take-le c.self.inside.len c.self.inside.slots (omega (arith, c.self.invariant.0)) in
    let room : c.self.inside.len + need c.args.slot ≤ 16 = rw (← c.self.view_is, height) at c.requires.room in
    let one = one_needed c.args.slot in
    rw (← c.self.view_is) (pushed-is c.self.inside.slots c.self.inside.len c.args.slot (omega arith))
