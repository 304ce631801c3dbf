use Rattle.std.proofs.Common.{◌≡◌, ◌-◌, ◌^◌, replicate, vec_capacity}
use Rattle.cqlp_session.proofs.stream_ids.all.Given as goal

abbrev pub invariant-loop : goal.invariant-loop
invariant-loop g l = record {
  items : l.words.items ≡ replicate l.counter (2 ^ 64 - 1);
  capacity : vec_capacity l.words ≡ l.count;
}
