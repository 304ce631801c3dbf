use Rattle.cqlp_message.specs.Owned.{frame_of}
use Rattle.cqlp_encode.specs.LentCells.{cells_of}
use Rattle.cqlp_encode.specs.Tallies.{HasCounted}
use Rattle.cqlp_encode.proofs.lent_page.measure_cells.Given as goal

abbrev pub invariant-loop-cell : goal.invariant-loop-cell
invariant-loop-cell g l = (goal.iterator-loop-cell g).can_next l.cell-iterator
    × (goal.iterator-loop-cell g).is_finite l.cell-iterator
    × HasCounted (frame_of l.frame) (cells_of l.yielded) l.tally
