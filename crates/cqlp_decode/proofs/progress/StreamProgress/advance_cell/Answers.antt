use Rattle.std.proofs.Common.{◌≡◌, Bool, true, false, refl, sym, ap, ◌∙◌}
use Rattle.cqlp_cell.specs.Progress.{CellState, is_under_way}
use Rattle.cqlp_cell.proofs.Leading.{is_over_done}
use Rattle.cqlp_decode.specs.declared.progress.StreamProgress.{StreamProgress}
use Rattle.cqlp_decode.specs.Progress.{parts, parts_state}
use Rattle.cqlp_decode.proofs.CellSteps.{cell_waits, cell_fails, going_hands, ended_hands, cell_more_lawful, cell_refused_lawful, cell_going_lawful, cell_ended_lawful}
use Rattle.cqlp_decode.proofs.progress.StreamProgress.advance_cell.Goals as goal

pub unreachable-requires : goal.unreachable-requires
unreachable-requires g c =
    let stage = rw c.requires.here at c.requires.lawful.stage in
    let done = is_over_done c.args.parts.now.cells stage.0.under_way (c.in-Done.ensures.moves.0) in
    let shut : ◌≡◌ {A = Bool} false true = sym stage.0.some ∙ done in
    cc

pub returns-in-More-clause-lawful : goal.returns-in-More-clause-lawful
returns-in-More-clause-lawful g c =
    let q = parts_state c.args.parts.now in
    let law = c.requires.lawful in
    let stage = rw c.requires.here at law.stage in
    cell_more_lawful c.args.self.now q c.args.page c.requires.here stage.0 law.parts.cells c.args.input.now c.in-More.used c.advance.new.self c.advance.new.partial (rw c.page_table-table.ensures at c.in-More.ensures.moves) law

pub returns-in-More-clause-moves : goal.returns-in-More-clause-moves
returns-in-More-clause-moves g c =
    let q = parts_state c.args.parts.now in
    let law = c.requires.lawful in
    let stage = rw c.requires.here at law.stage in
    cell_waits c.args.self.now q c.args.page c.requires.here stage.0 law.parts.cells c.args.input.now c.in-More.used c.advance.new.self c.advance.new.partial (rw c.page_table-table.ensures at c.in-More.ensures.moves)

pub returns-in-Refused-clause-lawful : goal.returns-in-Refused-clause-lawful
returns-in-Refused-clause-lawful g c =
    let q = parts_state c.args.parts.now in
    let law = c.requires.lawful in
    let stage = rw c.requires.here at law.stage in
    cell_refused_lawful c.args.self.now q c.args.page c.requires.here stage.0 law.parts.cells c.args.input.now c.in-Refused.refusal c.advance.new.self c.advance.new.partial (rw c.page_table-table.ensures at c.in-Refused.ensures.moves) law

pub returns-in-Refused-clause-moves : goal.returns-in-Refused-clause-moves
returns-in-Refused-clause-moves g c =
    let q = parts_state c.args.parts.now in
    let law = c.requires.lawful in
    let stage = rw c.requires.here at law.stage in
    cell_fails c.args.self.now q c.args.page c.requires.here stage.0 law.parts.cells c.args.input.now c.in-Refused.refusal c.advance.new.self c.advance.new.partial (rw c.page_table-table.ensures at c.in-Refused.ensures.moves)

pub returns-then-not-done-clause-lawful : goal.returns-then-not-done-clause-lawful
returns-then-not-done-clause-lawful g c =
    let q = parts_state c.args.parts.now in
    let law = c.requires.lawful in
    let stage = rw c.requires.here at law.stage in
    cell_going_lawful c.args.self.now q c.args.page c.requires.here stage.0 law.parts.cells c.args.input.now c.in-Item.at c.in-Item.used c.in-Item.item c.advance.new.self c.advance.new.partial (rw c.page_table-table.ensures at c.in-Item.ensures.moves) law (sym c.done.ensures ∙ c.if-not-done.true)

pub returns-then-not-done-clause-moves : goal.returns-then-not-done-clause-moves
returns-then-not-done-clause-moves g c =
    let q = parts_state c.args.parts.now in
    let law = c.requires.lawful in
    let stage = rw c.requires.here at law.stage in
    going_hands c.args.self.now q c.args.page c.requires.here stage.0 law.parts.cells c.args.input.now c.in-Item.at c.in-Item.used c.in-Item.item c.advance.new.self c.advance.new.partial (rw c.page_table-table.ensures at c.in-Item.ensures.moves) (sym c.done.ensures ∙ c.if-not-done.true)

pub returns-else-not-done-clause-lawful : goal.returns-else-not-done-clause-lawful
returns-else-not-done-clause-lawful g c =
    let q = parts_state c.args.parts.now in
    let law = c.requires.lawful in
    let stage = rw c.requires.here at law.stage in
    let rest = c.end_cell.ensures.rest in
    let goes_on = (rw c.page_table-table.ensures at c.end_cell.ensures.goes_on) (parts c.advance.new.partial c.args.parts.now.types c.end_cell.new.cells c.args.parts.now.table c.args.parts.now.given) refl (rw c.requires.here at law.uses) in
    cell_ended_lawful c.args.self.now q c.args.page c.requires.here stage.0 law.parts.cells c.args.input.now c.in-Item.at c.in-Item.used c.in-Item.item c.advance.new.self c.advance.new.partial (rw c.page_table-table.ensures at c.in-Item.ensures.moves) law c.end_cell.new.self c.end_cell.new.cells (ap (λ (z : StreamProgress). z.offset) rest) (ap (λ (z : StreamProgress). z.stop) rest) (ap (λ (z : StreamProgress). z.limits) rest) (ap (λ (z : StreamProgress). z.header) rest)
    (ap (λ (z : StreamProgress). z.came) rest) (ap (λ (z : CellState). z.rules) c.end_cell.ensures.cells) (rw c.requires.here at (law.table c.requires.unrefused)) (ap is_under_way c.end_cell.ensures.cells) (ap (λ (z : CellState). z.open_values) c.end_cell.ensures.cells) goes_on.1

pub returns-else-not-done-clause-moves : goal.returns-else-not-done-clause-moves
returns-else-not-done-clause-moves g c =
    let q = parts_state c.args.parts.now in
    let law = c.requires.lawful in
    let stage = rw c.requires.here at law.stage in
    let rest = c.end_cell.ensures.rest in
    let goes_on = (rw c.page_table-table.ensures at c.end_cell.ensures.goes_on) (parts c.advance.new.partial c.args.parts.now.types c.end_cell.new.cells c.args.parts.now.table c.args.parts.now.given) refl (rw c.requires.here at law.uses) in
    ended_hands c.args.self.now q c.args.page c.requires.here stage.0 law.parts.cells c.args.input.now c.in-Item.at c.in-Item.used c.in-Item.item c.advance.new.self c.advance.new.partial (rw c.page_table-table.ensures at c.in-Item.ensures.moves) (sym c.done.ensures ∙ c.if-not-done.false) c.end_cell.new.self c.end_cell.new.cells (ap (λ (z : StreamProgress). z.offset) rest) (ap (λ (z : StreamProgress). z.stop) rest) (ap (λ (z : StreamProgress). z.frame) rest)
    (ap (λ (z : StreamProgress). z.came) rest ∙ stage.0.came) goes_on.0 goes_on.1 (ap (λ (z : CellState). z.open_values) c.end_cell.ensures.cells) (ap (λ (z : StreamProgress). z.given_use) rest)
