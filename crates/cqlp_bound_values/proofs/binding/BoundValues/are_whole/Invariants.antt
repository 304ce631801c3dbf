use Rattle.std.proofs.Common.{◌≡◌}
use Rattle.cqlp_bound_values.specs.Bindings.{are_whole, values_of}
use Rattle.cqlp_bound_values.proofs.binding.BoundValues.are_whole.Given as goal

abbrev pub invariant-loop-rest : goal.invariant-loop-rest
invariant-loop-rest l = are_whole l.rest.count (values_of l.rest) ≡ are_whole l.self.count (values_of l.self)

abbrev pub decreases-loop-rest : goal.decreases-loop-rest
decreases-loop-rest l = l.rest.count
