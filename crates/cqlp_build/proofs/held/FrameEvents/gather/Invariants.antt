use Rattle.std.specs.Prelude.{length}
use Rattle.cqlp_build.proofs.Cells.{Comes}
use Rattle.cqlp_build.proofs.held.FrameEvents.gather.Given as goal

-- what has come is the beginning
abbrev pub invariant-loop-level : goal.invariant-loop-level
invariant-loop-level l = Comes l.row l.column l.fn.self l.self

abbrev pub decreases-loop-level : goal.decreases-loop-level
decreases-loop-level l = length l.self.items.items
