use Rattle.std.proofs.Common.{IsSome}
use Rattle.cqlp_capture_exchanges.specs.Talks.{all_heard, bytes_heard, slot}
use Rattle.cqlp_capture_exchanges.proofs.Talks.{Hearing}
use Rattle.cqlp_capture_exchanges.proofs.slot.hear_bytes.Given as goal

abbrev pub invariant-loop-unread : goal.invariant-loop-unread
invariant-loop-unread g l =
    let p = l.fn.piece in
    IsSome l.fn.reporter.output.given
    → Hearing l.connection l.fn.reporter (bytes_heard p.responses p.time p.begins l.room p.bytes.now (slot l.fn.watch l.fn.is_reported)) (all_heard l.unread.steps p.responses p.time l.unread.begins l.room l.unread.bytes.now (slot l.watch l.is_reported)) l.reporter

abbrev pub decreases-loop-unread : goal.decreases-loop-unread
decreases-loop-unread g l = l.unread.steps
