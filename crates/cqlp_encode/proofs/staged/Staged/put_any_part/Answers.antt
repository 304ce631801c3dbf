use Rattle.cqlp_type.specs.TypeTrees.{tree_of}
use Rattle.cqlp_encode.proofs.Options.{tree_long}
use Rattle.cqlp_encode.proofs.PartsTaken.{cell_long}
use Rattle.cqlp_encode.proofs.staged.Staged.put_any_part.Goals as goal

pub returns-in-Type-clause-size : goal.returns-in-Type-clause-size
returns-in-Type-clause-size g c = rw c.in-Type.is (tree_long (tree_of c.in-Type.tree.now))

pub returns-in-Cell-clause-size : goal.returns-in-Cell-clause-size
returns-in-Cell-clause-size g c = rw c.in-Cell.is (cell_long _ _ c.in-Cell.tree c.in-Cell.value)
