use Rattle.std.proofs.Common.{◌∙◌, ◌≤◌, ap, length, arith}
use Rattle.cqlp_columns.specs.Arrays.{Column}
use Rattle.cqlp_columns.specs.Batches.{fault_in}
use Rattle.cqlp_columns.specs.Cells.{cell_in}
use Rattle.cqlp_columns.proofs.Taking.{fault_beyond, fault_there}
use Rattle.cqlp_columns.proofs.columns.fault_among.Goals as goal

pub returns-then-column-columns : goal.returns-then-column-columns
returns-then-column-columns g c =
    c.fault_in.ensures
    ∙ ap (λ (x : Column). fault_in c.args.limits (cell_in c.args.cell) x) c.index-columns-column.is
    ∙ fault_there c.args.limits c.args.columns.now c.args.column (cell_in c.args.cell) c.index-columns-column.result c.if-column-columns.true

pub returns-else-column-columns : goal.returns-else-column-columns
returns-else-column-columns g c =
    let beyond : length c.args.columns.now ≤ c.args.column = omega (arith, c.if-column-columns.false) in
    fault_beyond c.args.limits c.args.columns.now c.args.column (cell_in c.args.cell) beyond
