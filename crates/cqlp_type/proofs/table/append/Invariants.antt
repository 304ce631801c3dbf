use Rattle.std.proofs.Common.{◌≡◌, ◌++◌, take, vec_capacity}
use Rattle.cqlp_type.proofs.table.append.Given as goal

abbrev pub invariant-loop-node : goal.invariant-loop-node
invariant-loop-node g l = record {
  items : l.nodes.items ≡ l.initial.nodes.items ++ take l.node-index l.added;
  capacity : vec_capacity l.nodes ≡ vec_capacity l.initial.nodes;
}
