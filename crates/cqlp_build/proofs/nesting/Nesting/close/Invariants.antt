use Rattle.std.proofs.Common.{◌≡◌, length}
use Rattle.cqlp_build.specs.Nesting.{still_open}
use Rattle.cqlp_build.proofs.nesting.Nesting.close.Given as goal

abbrev pub invariant-full : goal.invariant-full
invariant-full l = still_open l.self.left.items ≡ still_open l.fn.self.left.items

abbrev pub decreases-full : goal.decreases-full
decreases-full l = length l.self.left.items
