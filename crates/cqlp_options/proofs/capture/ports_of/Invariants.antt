use Rattle.std.proofs.Common.{◌≤◌}
use Rattle.cqlp_options.proofs.capture.ports_of.Given as goal

abbrev pub invariant-loop-port : goal.invariant-loop-port
invariant-loop-port l = l.ports.count ≤ 16
