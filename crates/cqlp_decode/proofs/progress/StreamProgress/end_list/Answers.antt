use Rattle.std.proofs.Common.{[]}
use Rattle.cqlp_cell.specs.Progress.{CellState}
use Rattle.cqlp_decode.specs.Items.{at_level}
use Rattle.cqlp_decode.specs.Progress.{parts_state}
use Rattle.cqlp_decode.proofs.ItemLoop.{over_lawful, over_takes}
use Rattle.cqlp_decode.proofs.progress.StreamProgress.end_list.Goals as goal

pub returns-clause-lawful : goal.returns-clause-lawful
returns-clause-lawful g c =
    let s = c.args.self.now in
    let q = parts_state c.args.parts.now in
    let r = c.requires.ready in
    let left : CellState = record q.cells { offset = c.args.level.offset; open_values = [] } in
    over_lawful s (at_level q c.args.level) c.args.page r.here r.lawful r.empty [] left c.args.end (c.requires.ends.0 []) c.requires.ends.1 r.unrefused c.end_cell.new.self c.end_cell.new.cells (rw c.page_table-table.ensures at c.end_cell.ensures.goes_on) (rw c.set_level.ensures at c.end_cell.ensures.rest) (rw c.set_level.ensures at c.end_cell.ensures.cells)

pub returns-clause-leaves : goal.returns-clause-leaves
returns-clause-leaves g c = λ input.
    let s = c.args.self.now in
    let q = parts_state c.args.parts.now in
    let r = c.requires.ready in
    let left : CellState = record q.cells { offset = c.args.level.offset; open_values = [] } in
    over_takes s (at_level q c.args.level) c.args.page r.here r.lawful r.empty input left c.args.end (c.requires.ends.0 input) c.requires.ends.1 r.unrefused c.end_cell.new.self c.end_cell.new.cells (rw c.page_table-table.ensures at c.end_cell.ensures.goes_on) (rw c.set_level.ensures at c.end_cell.ensures.rest) (rw c.set_level.ensures at c.end_cell.ensures.cells)
