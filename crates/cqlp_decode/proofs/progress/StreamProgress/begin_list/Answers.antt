use Rattle.cqlp_decode.specs.Progress.{parts_state}
use Rattle.cqlp_decode.proofs.CellSteps.{cell_begun_lawful}
use Rattle.cqlp_decode.proofs.progress.StreamProgress.begin_list.Goals as goal

pub returns-clause-lawful : goal.returns-clause-lawful
returns-clause-lawful g c =
    rw (c.begin_cell.ensures.stage, c.begin_cell.ensures.cells) (cell_begun_lawful c.args.self.now (parts_state c.args.parts.now) c.in-BeforeCell.page c.in-BeforeCell.is c.requires.lawful c.requires.unrefused)
