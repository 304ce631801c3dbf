use Rattle.std.proofs.Common.{◌≡◌, ◌≤◌, drop}
use Rattle.cqlp_tcp_reassembly.specs.Runs.{free_part}
use Rattle.cqlp_tcp_reassembly.proofs.queue.RunQueue.free_part.Given as goal

abbrev pub invariant-loop-index : goal.invariant-loop-index
invariant-loop-index g l = record {
  rest : free_part 0 l.from l.to l.self ≡ free_part l.index l.start l.to (drop l.index l.self);
  from : l.from ≤ l.start;
}
