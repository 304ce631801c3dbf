use Rattle.cqlp_cell.specs.Progress.{state_of}
use Rattle.cqlp_cell.proofs.Further.{close_inside}
use Rattle.cqlp_cell.proofs.progress.CellProgress.leave.Goals as goal

pub has_further-requires : goal.has_further-requires
has_further-requires g c = close_inside c.args.table.now.nodes (state_of c.args.self.now) c.args.value c.requires.conforms c.requires.due
