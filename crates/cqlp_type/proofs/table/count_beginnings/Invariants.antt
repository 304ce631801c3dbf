use Rattle.std.proofs.Common.{◌≡◌, ◌+◌, ◌-◌, ◌≤◌, drop, length}
use Rattle.cqlp_type.specs.Table.{beginnings}
use Rattle.cqlp_type.proofs.table.count_beginnings.Given as goal

abbrev pub invariant-loop-at : goal.invariant-loop-at
invariant-loop-at l = record { counted : l.count + length (beginnings l.at 0 (drop l.at l.nodes)) ≡ length (beginnings 0 0 l.nodes); few : l.count ≤ l.at }

abbrev pub decreases-loop-at : goal.decreases-loop-at
decreases-loop-at l = length l.nodes - l.at
