use Rattle.std.proofs.Common.{◌≡◌, length, vec_capacity}
use Rattle.std.specs.Vec.{vec_ptr}
use Rattle.cqlp_columns.proofs.column.remove_all.Given as goal

abbrev pub decreases-offsets : goal.decreases-offsets
decreases-offsets g l = length l.offsets.items

abbrev pub invariant-offsets : goal.invariant-offsets
invariant-offsets g l = record {
  capacity : vec_capacity l.offsets ≡ vec_capacity l.fn.offsets;
  in_place : vec_ptr l.offsets ≡ vec_ptr l.fn.offsets;
}
