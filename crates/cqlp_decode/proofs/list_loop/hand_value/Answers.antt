use Rattle.std.proofs.Common.{arith}
use Rattle.cqlp_decode.proofs.list_loop.hand_value.Goals as goal

pub pass_value-requires-clause-place : goal.pass_value-requires-clause-place
pass_value-requires-clause-place g c =
    let one = rw c.due_in-due.ensures at c.in-Taken.ensures.hands in
    omega (arith, one.says.inside, c.requires.place)

pub pass_value-requires-in-Fault-clause-place : goal.pass_value-requires-in-Fault-clause-place
pass_value-requires-in-Fault-clause-place g c =
    let one = rw c.due_in-due.ensures at c.in-Fault.ensures.hands in
    omega (arith, one.says.inside, c.requires.place)
