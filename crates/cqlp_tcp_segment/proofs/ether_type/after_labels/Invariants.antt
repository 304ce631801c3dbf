use Rattle.std.proofs.Common.{◌≡◌, length}
use Rattle.cqlp_tcp_segment.specs.EtherType.{after_labels}
use Rattle.cqlp_tcp_segment.proofs.ether_type.after_labels.Given as goal

abbrev pub invariant-loop-bytes : goal.invariant-loop-bytes
invariant-loop-bytes l = after_labels l.bytes ≡ after_labels l.fn.bytes

abbrev pub decreases-loop-bytes : goal.decreases-loop-bytes
decreases-loop-bytes l = length l.bytes
