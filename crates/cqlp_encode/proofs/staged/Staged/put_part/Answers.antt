use Rattle.cqlp_encode.proofs.PartsTaken.{cell_long}
use Rattle.cqlp_encode.proofs.staged.Staged.put_part.Goals as goal

pub returns-in-Cell-clause-size : goal.returns-in-Cell-clause-size
returns-in-Cell-clause-size g c = rw c.in-Cell.is (cell_long _ _ c.in-Cell.tree c.in-Cell.value)
