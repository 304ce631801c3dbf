use Rattle.std.proofs.Common.{map}
use Rattle.cqlp_message.specs.Bodies.{column_types, row_parts}
use Rattle.cqlp_message.specs.Owned.{spec_of}
use Rattle.cqlp_value.specs.Owned.{value_of}
use Rattle.cqlp_message.proofs.Walks.{Remains}
use Rattle.cqlp_message.proofs.PageWalks.{typed_rest}
use Rattle.cqlp_message.proofs.page_parts.walk_typed.Given as goal

-- the cells from this column on remain
abbrev pub invariant-loop-column : goal.invariant-loop-column
invariant-loop-column g l = Remains g.V.TakesParts.taken l.fn.visitor l.visitor (typed_rest l.row l.column l.rest l.cells) (row_parts l.row 0 (column_types (map spec_of l.specs)) (map value_of l.cells))
