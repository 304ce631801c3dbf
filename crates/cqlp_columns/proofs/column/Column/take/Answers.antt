use Rattle.std.proofs.Common.{◌∙◌, ap}
use Rattle.cqlp_columns.specs.Arrays.{with_cell}
use Rattle.cqlp_columns.specs.Cells.{Cell, cell_of}
use Rattle.cqlp_columns.proofs.Appends.{taken_to}
use Rattle.cqlp_columns.proofs.column.Column.take.Goals as goal

pub returns-in-None-clause-taken : goal.returns-in-None-clause-taken
returns-in-None-clause-taken g c =
    let pushed = c.push.ensures ∙ ap (λ (x : Cell). with_cell x c.args.self.now) c.lend.ensures in
    λ ok cells h. taken_to (cell_of c.args.cell.now) c.args.self.now c.push.new.self cells pushed h
