use Rattle.std.proofs.Common.{◌∙◌, refl, sym}
use Rattle.cqlp_cell.specs.Progress.{state_of}
use Rattle.cqlp_cell.proofs.WholeItems.{leave_whole}
use Rattle.cqlp_cell.proofs.progress.CellProgress.take_bare.Goals as goal

pub returns-else-at-value-clause-takes : goal.returns-else-at-value-clause-takes
returns-else-at-value-clause-takes g c =
    leave_whole c.args.table.now.nodes (state_of c.args.self.now) c.in-Close.value c.args.input.now _ c.len.result c.requires.conforms (sym c.due.ensures ∙ c.in-Close.is) c.in-Nothing.is c.if-at-value.false (rw c.pop.ensures refl) (rw c.pop.ensures at c.len.ensures.is)
