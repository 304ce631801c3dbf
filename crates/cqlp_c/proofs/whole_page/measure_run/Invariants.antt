use Rattle.cqlp_c.proofs.CellWriting.{MeasuredSoFar}
use Rattle.cqlp_c.proofs.whole_page.measure_run.Given as goal

-- the events before this one are cells of the page
abbrev pub invariant-loop-at : goal.invariant-loop-at
invariant-loop-at l = MeasuredSoFar l.page.frame l.cells l.contents l.events l.at l.size l.rest
