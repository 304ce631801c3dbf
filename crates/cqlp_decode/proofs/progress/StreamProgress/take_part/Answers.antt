use Rattle.std.proofs.Common.{sym, ◌∙◌}
use Rattle.cqlp_decode.specs.Progress.{parts_state}
use Rattle.cqlp_decode.proofs.ItemLoop.{going_lawful, going_takes, over_lawful, over_takes}
use Rattle.cqlp_decode.proofs.progress.StreamProgress.take_part.Goals as goal

pub returns-then-over-clause-lawful : goal.returns-then-over-clause-lawful
returns-then-over-clause-lawful g c =
    over_lawful c.args.self.now (parts_state c.args.parts.now) c.args.page c.requires.here c.requires.lawful c.requires.empty c.args.input.now c.take_bare.new.self c.in-Some.item (rw c.page_table-table.ensures at c.in-Some.ensures)
    (sym c.done-over.ensures ∙ c.if-over.true) c.requires.unrefused c.end_cell.new.self c.end_cell.new.cells (rw c.page_table-table.ensures at c.end_cell.ensures.goes_on) c.end_cell.ensures.rest c.end_cell.ensures.cells

pub returns-then-over-clause-takes : goal.returns-then-over-clause-takes
returns-then-over-clause-takes g c =
    over_takes c.args.self.now (parts_state c.args.parts.now) c.args.page c.requires.here c.requires.lawful c.requires.empty c.args.input.now c.take_bare.new.self c.in-Some.item (rw c.page_table-table.ensures at c.in-Some.ensures)
    (sym c.done-over.ensures ∙ c.if-over.true) c.requires.unrefused c.end_cell.new.self c.end_cell.new.cells (rw c.page_table-table.ensures at c.end_cell.ensures.goes_on) c.end_cell.ensures.rest c.end_cell.ensures.cells

pub returns-else-over-clause-lawful : goal.returns-else-over-clause-lawful
returns-else-over-clause-lawful g c =
    going_lawful c.args.self.now (parts_state c.args.parts.now) c.args.page c.requires.here c.requires.lawful c.requires.empty c.args.input.now c.take_bare.new.self c.in-Some.item (rw c.page_table-table.ensures at c.in-Some.ensures) (sym c.done-over.ensures ∙ c.if-over.false)

pub returns-else-over-clause-takes : goal.returns-else-over-clause-takes
returns-else-over-clause-takes g c =
    going_takes c.args.self.now (parts_state c.args.parts.now) c.args.page c.requires.here c.requires.lawful c.requires.empty c.args.input.now c.take_bare.new.self c.in-Some.item (rw c.page_table-table.ensures at c.in-Some.ensures) (sym c.done-over.ensures ∙ c.if-over.false)
