use Rattle.cqlp_decode.specs.Progress.{parts_state}
use Rattle.cqlp_decode.proofs.CellSteps.{cell_begun_lawful}
use Rattle.cqlp_decode.proofs.progress.StreamProgress.enter_cell.Goals as goal

pub returns-else-not-counted-clause-lawful : goal.returns-else-not-counted-clause-lawful
returns-else-not-counted-clause-lawful g c =
    rw (c.begin_cell.ensures.stage, c.begin_cell.ensures.cells) (cell_begun_lawful c.args.self.now (parts_state c.args.parts.now) c.in-BeforeCell.page c.in-BeforeCell.is c.requires.lawful c.requires.unrefused)
