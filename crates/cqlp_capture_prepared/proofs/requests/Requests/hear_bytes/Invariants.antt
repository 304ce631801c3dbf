use Rattle.std.proofs.Common.{◌≡◌}
use Rattle.cqlp_capture_prepared.specs.Requests.{all_asked, asked, bytes_asked}
use Rattle.cqlp_capture_prepared.proofs.requests.Requests.hear_bytes.Given as goal

abbrev pub invariant-loop-unread : goal.invariant-loop-unread
invariant-loop-unread g l =
    all_asked l.unread.steps l.unread.begins l.unread.bytes.now (asked l.self l.known) ≡ bytes_asked l.fn.begins l.fn.bytes (asked l.fn.self l.fn.known)

abbrev pub decreases-loop-unread : goal.decreases-loop-unread
decreases-loop-unread g l = l.unread.steps
