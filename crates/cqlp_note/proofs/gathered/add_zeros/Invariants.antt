use Rattle.std.proofs.Common.{◌≡◌, ◌++◌, replicate, vec_capacity}
use Rattle.std.specs.Vec.{vec_ptr}
use Rattle.cqlp_note.proofs.gathered.add_zeros.Given as goal

abbrev pub invariant-loop : goal.invariant-loop
invariant-loop g l = record {
  items : l.bytes.items ≡ l.initial.bytes.items ++ replicate l.counter 0;
  capacity : vec_capacity l.bytes ≡ vec_capacity l.initial.bytes;
  in_place : vec_ptr l.bytes ≡ vec_ptr l.initial.bytes;
}
