use Rattle.std.proofs.Common.{sym}
use Rattle.cqlp_grammar.specs.Events.{event_of}
use Rattle.cqlp_columns.specs.Cells.{cell_in}
use Rattle.cqlp_columns.proofs.Taking.{answered, batch_more, batch_nothing}
use Rattle.cqlp_columns.proofs.columns.Columns.take.Goals as goal

pub returns-in-Nothing-clause-taken : goal.returns-in-Nothing-clause-taken
returns-in-Nothing-clause-taken g c =
    λ ok kinds es h. batch_nothing c.args.self.now.limits kinds es (event_of c.args.event.now) c.args.self.now (sym c.in-Nothing.ensures) h

pub returns-in-Cell-clause-taken : goal.returns-in-Cell-clause-taken
returns-in-Cell-clause-taken g c =
    λ ok kinds es h. batch_more c.args.self.now.limits kinds es (event_of c.args.event.now) c.in-Cell.column (cell_in c.in-Cell.cell) c.args.self.now c.put.new.self (sym c.in-Cell.ensures) (answered _ _ ok c.put.ensures.answer) (c.put.ensures.taken ok) h
