use Rattle.std.proofs.Common.{◌≡◌}
use Rattle.cqlp_capture_rows.specs.OtherConnections.{all_heard, bytes_heard, learning}
use Rattle.cqlp_capture_rows.proofs.other_connections.hear_bytes.Given as goal

abbrev pub invariant-loop-unread : goal.invariant-loop-unread
invariant-loop-unread g l =
    all_heard l.unread.steps l.fn.number l.unread.begins l.unread.bytes.now l.heads (learning l.frames l.others)
    ≡ bytes_heard l.fn.number l.fn.begins l.fn.bytes l.fn.heads (learning l.fn.frames l.fn.others)

abbrev pub decreases-loop-unread : goal.decreases-loop-unread
decreases-loop-unread g l = l.unread.steps
