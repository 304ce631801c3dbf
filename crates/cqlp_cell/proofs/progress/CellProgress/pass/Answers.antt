use Rattle.std.proofs.Common.{◌≡◌, Some, ap, ◌∙◌}
use Rattle.cqlp_cell.specs.OpenValues.{last_open}
use Rattle.cqlp_cell.specs.Progress.{state_of}
use Rattle.cqlp_cell.proofs.Nesting.{last_is}
use Rattle.cqlp_cell.proofs.Opened.{value_next, has_next}
use Rattle.cqlp_cell.proofs.progress.CellProgress.pass.Goals as goal

pub pass_item-requires : goal.pass_item-requires
pass_item-requires g c =
    let d = state_of c.args.self.now in
    let next = value_next c.args.table.now.nodes d c.requires.conforms c.in-Items.is c.requires.due in
    let last : last_open d.open_values ≡ Some next.0 = ap last_open next.1.is ∙ last_is next.1.front next.0 in
    rw last (has_next c.args.table.now.nodes d.rules _ d.offset next.0 next.1.innermost.types next.2)
