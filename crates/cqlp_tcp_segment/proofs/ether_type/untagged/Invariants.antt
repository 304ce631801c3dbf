use Rattle.std.proofs.Common.{◌≡◌, length}
use Rattle.cqlp_tcp_segment.specs.EtherType.{untagged}
use Rattle.cqlp_tcp_segment.proofs.ether_type.untagged.Given as goal

abbrev pub invariant-loop-bytes : goal.invariant-loop-bytes
invariant-loop-bytes l = untagged l.ether_type l.bytes ≡ untagged l.fn.ether_type l.fn.bytes

abbrev pub decreases-loop-bytes : goal.decreases-loop-bytes
decreases-loop-bytes l = length l.bytes
