use Rattle.std.proofs.Common.{map}
use Rattle.cqlp_message.specs.Bodies.{row_parts}
use Rattle.cqlp_grammar.specs.Productions.{raw_types}
use Rattle.cqlp_value.specs.Owned.{value_of}
use Rattle.cqlp_message.proofs.Walks.{Remains}
use Rattle.cqlp_message.proofs.PageWalks.{raw_rest}
use Rattle.cqlp_message.proofs.page_parts.walk_raw.Given as goal

-- the cells from this column on remain
abbrev pub invariant-loop-column : goal.invariant-loop-column
invariant-loop-column g l = Remains g.V.TakesParts.taken l.fn.visitor l.visitor (raw_rest l.row l.column l.columns l.cells) (row_parts l.row 0 (raw_types l.columns) (map value_of l.cells))
