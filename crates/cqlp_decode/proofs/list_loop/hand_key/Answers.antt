use Rattle.std.proofs.Common.{arith}
use Rattle.cqlp_decode.proofs.list_loop.hand_key.Goals as goal

pub pass_key-requires-clause-place : goal.pass_key-requires-clause-place
pass_key-requires-clause-place g c =
    let one = rw c.due_in-due.ensures at c.in-Taken.ensures.hands in
    omega (arith, one.says.inside, c.requires.place)

pub pass_key-requires-in-Fault-clause-place : goal.pass_key-requires-in-Fault-clause-place
pass_key-requires-in-Fault-clause-place g c =
    let one = rw c.due_in-due.ensures at c.in-Fault.ensures.hands in
    omega (arith, one.says.inside, c.requires.place)
