use Rattle.std.proofs.Common.{◌≡◌, None, replicate, vec_capacity}
use Rattle.cqlp_session.proofs.slots.empty.Given as goal

abbrev pub invariant-loop : goal.invariant-loop
invariant-loop g l = record {
  items : l.slots.items ≡ replicate l.counter None;
  capacity : vec_capacity l.slots ≡ l.len;
}
