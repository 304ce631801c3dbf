use Rattle.cqlp_build.proofs.Sized.{resized}
use Rattle.cqlp_build.proofs.held.FrameEvents.cells.Goals as goal

pub returns : goal.returns
returns c = record { is = resized c.sized_cells-cells.result.1 c.sized_cells-cells.ensures.is; sized = c.sized_cells-cells.ensures.sized }
