use Rattle.std.proofs.Common.{sym, ◌∙◌}
use Rattle.cqlp_cell.specs.Progress.{state_of}
use Rattle.cqlp_cell.proofs.Opened.{value_last, has_next, node_there, cell_there}
use Rattle.cqlp_cell.proofs.progress.CellProgress.value.Goals as goal

pub cell_value-requires : goal.cell_value-requires
cell_value-requires g c =
    let conforms = rw c.in-Cell.is at c.requires.conforms.next_conforms in
    cell_there c.args.table.now.nodes (state_of c.args.self.now).rules c.in-Cell.node conforms.1

pub value_at-requires : goal.value_at-requires
value_at-requires g c =
    let d = state_of c.args.self.now in
    let next = value_last c.args.table.now.nodes d c.requires.conforms c.in-Items.is c.unwrap-value.result (sym c.last.ensures ∙ c.unwrap-value.ensures) c.requires.due in
    let types = next.0.innermost.types in
    node_there c.args.table.now.nodes d.rules _ c.unwrap-value.result types (has_next c.args.table.now.nodes d.rules _ d.offset c.unwrap-value.result types next.1)
