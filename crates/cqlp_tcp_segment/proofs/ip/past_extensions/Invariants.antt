use Rattle.std.proofs.Common.{◌≡◌, length}
use Rattle.cqlp_tcp_segment.specs.Ip.{past_extensions}
use Rattle.cqlp_tcp_segment.proofs.ip.past_extensions.Given as goal

abbrev pub invariant-loop-bytes : goal.invariant-loop-bytes
invariant-loop-bytes l = past_extensions 0 l.kind l.size l.bytes ≡ past_extensions 0 l.fn.kind l.fn.size l.fn.bytes

abbrev pub decreases-loop-bytes : goal.decreases-loop-bytes
decreases-loop-bytes l = length l.bytes
