use Rattle.std.proofs.Common.{◌≡◌}
use Rattle.cqlp_capture_exchanges.specs.Warnings.{are_whole, listed_of, texts_in}
use Rattle.cqlp_capture_exchanges.proofs.warning.Warnings.are_whole.Given as goal

abbrev pub invariant-loop-warning : goal.invariant-loop-warning
invariant-loop-warning l = are_whole (texts_in (listed_of l.fn.self)) ≡ are_whole (texts_in (listed_of l.rest))

abbrev pub decreases-loop-warning : goal.decreases-loop-warning
decreases-loop-warning l = l.rest.left
