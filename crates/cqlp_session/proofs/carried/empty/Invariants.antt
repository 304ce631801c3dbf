use Rattle.std.proofs.Common.{◌≡◌, None, replicate, vec_capacity, vec_len}
use Rattle.cqlp_session.proofs.carried.empty.Given as goal

abbrev pub invariant-loop : goal.invariant-loop
invariant-loop g l = record {
  items : l.carried.items ≡ replicate l.counter None;
  len : vec_len l.carried ≡ l.counter;
  capacity : vec_capacity l.carried ≡ l.len;
}
