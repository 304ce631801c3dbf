use Rattle.std.proofs.Common.{map}
use Rattle.cqlp_value.specs.Owned.{value_of}
use Rattle.cqlp_message.specs.Bodies.{cell_types}
use Rattle.cqlp_message.specs.Owned.{metadata_of}
use Rattle.cqlp_build.proofs.Rows.{Row}
use Rattle.cqlp_build.proofs.held.FrameEvents.row.Given as goal

-- the cells that are there are others and the first of the row
abbrev pub invariant-loop-column : goal.invariant-loop-column
invariant-loop-column l =
    Row l.row (cell_types (metadata_of l.meta)) (map value_of l.fn.cells.items) l.fn.self l.self l.column (map value_of l.cells.items)
