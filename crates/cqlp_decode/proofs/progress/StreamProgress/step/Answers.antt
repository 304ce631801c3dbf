use Rattle.std.proofs.Common.{subst}
use Rattle.cqlp_decode.specs.Progress.{StreamState, Moves, parts_state, state_with}
use Rattle.cqlp_decode.proofs.OptionSteps.{option_begun_lawful, option_begun_same}
use Rattle.cqlp_decode.proofs.CellSteps.{cell_begun_lawful, cell_begun_moves}
use Rattle.cqlp_decode.proofs.progress.StreamProgress.step.Goals as goal

pub returns-in-Header-clause-lawful : goal.returns-in-Header-clause-lawful
returns-in-Header-clause-lawful g c = c.advance_header.ensures.lawful (parts_state c.args.parts.now) c.requires.lawful

pub returns-in-Field-clause-lawful : goal.returns-in-Field-clause-lawful
returns-in-Field-clause-lawful g c = c.advance_field.ensures.lawful c.requires.lawful

pub advance_option-requires-clause-lawful : goal.advance_option-requires-clause-lawful
advance_option-requires-clause-lawful g c =
    let q = parts_state c.args.parts.now in
    rw (c.begin_option.ensures.stage, c.begin_option.ensures.types) (option_begun_lawful c.args.self.now q c.in-BeforeType.is c.requires.lawful c.requires.unrefused)

pub returns-in-BeforeType-clause-moves : goal.returns-in-BeforeType-clause-moves
returns-in-BeforeType-clause-moves g c =
    let q = parts_state c.args.parts.now in
    let new = state_with c.advance_option.new.self c.advance_option.new.parts in
    let moves = c.advance_option.ensures.moves in
    subst (λ (z : StreamState). Moves z c.args.input.now c.advance_option.result new) (option_begun_same c.args.self.now q c.in-BeforeType.is) (rw (c.begin_option.ensures.stage, c.begin_option.ensures.types) at moves)

pub returns-in-Extra-clause-lawful : goal.returns-in-Extra-clause-lawful
returns-in-Extra-clause-lawful g c = c.advance_extra.ensures.lawful (parts_state c.args.parts.now) c.requires.lawful

pub advance_cell-requires-clause-lawful : goal.advance_cell-requires-clause-lawful
advance_cell-requires-clause-lawful g c =
    let q = parts_state c.args.parts.now in
    rw (c.begin_cell.ensures.stage, c.begin_cell.ensures.cells) (cell_begun_lawful c.args.self.now q c.in-BeforeCell.page c.in-BeforeCell.is c.requires.lawful c.requires.unrefused)

pub returns-in-BeforeCell-clause-moves : goal.returns-in-BeforeCell-clause-moves
returns-in-BeforeCell-clause-moves g c =
    let q = parts_state c.args.parts.now in
    let new = state_with c.advance_cell.new.self c.advance_cell.new.parts in
    let moves = c.advance_cell.ensures.moves in
    cell_begun_moves c.args.self.now q c.in-BeforeCell.page c.in-BeforeCell.is c.args.input.now c.advance_cell.result new c.requires.lawful (rw (c.begin_cell.ensures.stage, c.begin_cell.ensures.cells) at moves)
