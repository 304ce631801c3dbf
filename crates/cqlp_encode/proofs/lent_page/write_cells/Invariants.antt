use Rattle.std.proofs.Common.{ℕ, []}
use Rattle.cqlp_note.specs.Outputs.{written}
use Rattle.cqlp_encode.specs.PageWriting.{After, AddsAll}
use Rattle.cqlp_encode.specs.LentCells.{cells_of}
use Rattle.cqlp_encode.proofs.lent_page.write_cells.Given as goal

abbrev pub invariant-loop-cell : goal.invariant-loop-cell
invariant-loop-cell g l = (goal.iterator-loop-cell g).can_next l.cell-iterator
    × (goal.iterator-loop-cell g).is_finite l.cell-iterator
    × ((n : ℕ) → After l.initial.page n [] → AddsAll l.initial.page [] (cells_of l.yielded) (written g.W.Target l.initial.target) (written g.W.Target l.target) l.page)
