use Rattle.std.proofs.Common.{take}
use Rattle.std.specs.List.{All}
use Rattle.cqlp_value.specs.Owned.{value_of}
use Rattle.cqlp_value.specs.Values.{AreInRange}
use Rattle.cqlp_laws.proofs.frames.page_is_read.Given as goal

-- the cells so far are in range
abbrev pub invariant-loop-cell : goal.invariant-loop-cell
invariant-loop-cell l = All (λ v. AreInRange (value_of v)) (take l.cell-index l.cells)
