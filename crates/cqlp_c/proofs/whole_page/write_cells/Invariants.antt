use Rattle.std.proofs.Common.{◌+◌, drop}
use Rattle.cqlp_c.proofs.CellWriting.{RunWritten, WrittenSoFar}
use Rattle.cqlp_c.proofs.whole_page.write_cells.Given as goal

-- the cells before this one of each run are written
abbrev pub invariant-loop-at : goal.invariant-loop-at
invariant-loop-at l = record {
  first : RunWritten l.cells.first l.room0 l.at l.put0 l.rest0;
  second : RunWritten l.cells.second l.room1 l.at l.put1 l.rest1;
  third : RunWritten l.cells.third l.room2 l.at l.put2 l.rest2;
  last : WrittenSoFar l.cells.last.events.now l.cells.last.contents.now (drop (l.cells.first.size + l.cells.second.size + l.cells.third.size) l.fn.room) l.room3 l.at l.put3 l.rest3;
}
