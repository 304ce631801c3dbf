use Rattle.std.proofs.Common.{◌≡◌, ◌≤◌, List, length}
use Rattle.cqlp_kind.specs.declared.node.Node.{Node}
use Rattle.cqlp_kind.specs.TypeStep.{TypeSymbol, settled}
use Rattle.cqlp_type.specs.Remaining.{Closes}
use Rattle.cqlp_type.proofs.remaining.close_whole_types.Given as goal

abbrev pub invariant-loop-node : goal.invariant-loop-node
invariant-loop-node g l = record {
  settled : ◌≡◌ {A = List TypeSymbol × List Node} (settled l.around.symbols l.table.nodes) (settled l.initial.around.symbols l.initial.table.nodes);
  height : l.around.height ≤ l.initial.around.height;
  around : l.around.room ≡ l.initial.around.room;
  table : l.table.room ≡ l.initial.table.room;
  types : Closes l.around.symbols l.table.nodes;
  same : length l.table.nodes ≡ length l.initial.table.nodes;
}

abbrev pub decreases-loop-node : goal.decreases-loop-node
decreases-loop-node g l = l.around.height
