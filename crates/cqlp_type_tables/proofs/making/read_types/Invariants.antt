use Rattle.std.proofs.Common.{map}
use Rattle.cqlp_type_tables.proofs.Filling.{Filled}
use Rattle.cqlp_type_tables.proofs.making.read_types.Given as goal

-- the types so far are in the table
abbrev pub invariant-loop-item : goal.invariant-loop-item
invariant-loop-item g l = Filled (map g.T.HasType.type_of l.items) l.fn.size l.item-index l.reader l.partial l.table
