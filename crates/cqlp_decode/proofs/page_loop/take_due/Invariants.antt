use Rattle.std.proofs.Common.{◌≡◌, ◌+◌, ◌-◌, ◌≤◌, length}
use Rattle.cqlp_decode.specs.Sinks.{Gets}
use Rattle.cqlp_decode.specs.Progress.{IsConsistent, parts_state, state_of, state_with}
use Rattle.cqlp_decode.specs.Cells.{HandsOut}
use Rattle.cqlp_decode.proofs.PageLoop.{at_cell}
use Rattle.cqlp_decode.proofs.page_loop.take_due.Given as goal

-- what is used is read, the locals say where the reading is, and the sink has got its events
abbrev pub invariant-cells : goal.invariant-cells
invariant-cells g l = record {
  within : l.used ≤ length l.within;
  progress : l.progress ≡ l.fn.progress;
  columns : l.page.columns ≡ l.initial.page.columns;
  lawful : IsConsistent (at_cell l.fn.progress l.page (l.start + l.used)) (parts_state l.fn.parts);
  drained : HandsOut (Gets g.S.Sink) (state_with l.fn.progress l.fn.parts) (state_of (at_cell l.fn.progress l.page (l.start + l.used)) (parts_state l.fn.parts)) l.input l.used l.fn.sink l.sink;
}

-- each cell takes some byte
abbrev pub decreases-cells : goal.decreases-cells
decreases-cells g l = length l.within - l.used
