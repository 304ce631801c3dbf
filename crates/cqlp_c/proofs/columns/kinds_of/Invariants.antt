use Rattle.std.proofs.Common.{◌≡◌, length, drop}
use Rattle.std.specs.Vec.{vec_capacity}
use Rattle.cqlp_c.specs.Columns.{kinds_numbered}
use Rattle.cqlp_c.proofs.KindsNumbered.{behind}
use Rattle.cqlp_c.proofs.columns.kinds_of.Given as goal

abbrev pub invariant-loop-number : goal.invariant-loop-number
invariant-loop-number l = record {
  found : kinds_numbered l.numbers ≡ behind l.kinds.items (kinds_numbered (drop l.number-index l.numbers));
  count : length l.kinds.items ≡ l.number-index;
  capacity : vec_capacity l.kinds ≡ length l.numbers;
}
