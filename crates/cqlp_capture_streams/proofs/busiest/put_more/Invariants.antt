use Rattle.std.proofs.Common.{drop}
use Rattle.cqlp_text.proofs.Writing.{Progress}
use Rattle.cqlp_capture_streams.specs.Endings.{more_ports}
use Rattle.cqlp_capture_streams.proofs.busiest.put_more.Given as goal

-- the ports so far were taken
abbrev pub invariant-loop-port : goal.invariant-loop-port
invariant-loop-port g l = Progress l.fn.writer (more_ports l.ports) (more_ports (drop l.port-index l.ports)) l.writer
