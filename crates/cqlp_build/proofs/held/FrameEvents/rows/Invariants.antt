use Rattle.std.proofs.Common.{map}
use Rattle.cqlp_value.specs.Owned.{value_of}
use Rattle.cqlp_message.specs.Bodies.{cell_types}
use Rattle.cqlp_message.specs.Owned.{metadata_of}
use Rattle.cqlp_build.specs.FrameEvents.{IsSound}
use Rattle.cqlp_build.proofs.Rows.{RowsRemain}
use Rattle.cqlp_build.proofs.held.FrameEvents.rows.Given as goal

-- the cells that are there are those of the first rows
abbrev pub invariant-loop-row : goal.invariant-loop-row
invariant-loop-row l = record {
  remain : RowsRemain (cell_types (metadata_of l.meta)) l.rows l.fn.self l.self l.row (map value_of l.cells.items);
  sound : IsSound l.self;
}
