use Rattle.std.proofs.Common.{◌≡◌, ◌++◌, drop, map, take}
use Rattle.cqlp_columns.specs.Batches.{cleared}
use Rattle.cqlp_columns.proofs.columns.clear_all.Given as goal

abbrev pub invariant-loop-column : goal.invariant-loop-column
invariant-loop-column g l = l.columns ≡ map cleared (take l.column-index l.initial.columns) ++ drop l.column-index l.initial.columns
