use Rattle.std.proofs.Common.{◌≡◌, length}
use Rattle.std.specs.Vec.{vec_capacity}
use Rattle.cqlp_capture_summary.proofs.summary.make_recent.Given as goal

abbrev pub invariant-loop : goal.invariant-loop
invariant-loop g l = (length l.recent.items ≡ l.counter) × (vec_capacity l.recent ≡ l.count)
