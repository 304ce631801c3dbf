use Rattle.std.proofs.Common.{map}
use Rattle.cqlp_value.specs.Owned.{value_of}
use Rattle.cqlp_message.specs.Bodies.{cell_types, rows_parts}
use Rattle.cqlp_message.specs.Owned.{metadata_of}
use Rattle.cqlp_message.proofs.Walks.{Remains}
use Rattle.cqlp_message.proofs.PageWalks.{rows_rest}
use Rattle.cqlp_message.proofs.page_parts.walk_rows.Given as goal

-- the cells of the rows from this one on remain
abbrev pub invariant-loop-row : goal.invariant-loop-row
invariant-loop-row g l = Remains g.V.TakesParts.taken l.fn.visitor l.visitor (rows_rest l.row l.rows (cell_types (metadata_of l.meta)) l.rest) (rows_parts 0 (cell_types (metadata_of l.meta)) l.rows (map value_of l.cells))
