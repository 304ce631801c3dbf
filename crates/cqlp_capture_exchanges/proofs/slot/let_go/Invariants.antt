use Rattle.std.proofs.Common.{IsSome, length}
use Rattle.cqlp_capture_exchanges.specs.Talks.{new_slot, remaining, talk}
use Rattle.cqlp_capture_exchanges.proofs.Talks.{Hearing}
use Rattle.cqlp_capture_exchanges.proofs.slot.let_go.Given as goal

abbrev pub invariant-loop-exchange : goal.invariant-loop-exchange
invariant-loop-exchange g l =
    IsSome l.fn.reporter.output.given
    → Hearing l.connection l.fn.reporter (talk (remaining l.end l.fn.watch.waiting) new_slot) (talk (remaining l.end l.watch.waiting) new_slot) l.reporter

abbrev pub decreases-loop-exchange : goal.decreases-loop-exchange
decreases-loop-exchange g l = length l.watch.waiting
