use Rattle.cqlp_cell.proofs.Gathered.{emptied, emptied_waits, emptied_refused}
use Rattle.cqlp_cell.proofs.gather.clear.Goals as goal

pub returns-clause-empty : goal.returns-clause-empty
returns-clause-empty g c = emptied c.args.partial.now c.begin.new.self c.advance.new.self c.begin.ensures _ _ c.in-Got.ensures.0

pub unreachable-requires : goal.unreachable-requires
unreachable-requires g c = emptied_waits c.args.partial.now c.begin.new.self c.advance.new.self c.begin.ensures _ c.in-More.ensures

pub unreachable-requires-in-Refused : goal.unreachable-requires-in-Refused
unreachable-requires-in-Refused g c = emptied_refused c.args.partial.now c.begin.new.self c.advance.new.self c.begin.ensures _ c.in-Refused.ensures.1
