use Rattle.std.proofs.Common.{◌≡◌}
use Rattle.cqlp_tcp_connections.specs.Ports.{busiest_of}
use Rattle.cqlp_tcp_connections.proofs.ports.PortCounts.busiest.Given as goal

abbrev pub invariant-loop-port : goal.invariant-loop-port
invariant-loop-port g l = l.best ≡ busiest_of l.port l.self
