use Rattle.std.proofs.Common.{◌≡◌, ◌+◌, ◌<◌, ◌^◌, length}
use Rattle.cqlp_tcp_segment.specs.Tunnels.{innermost}
use Rattle.cqlp_tcp_segment.proofs.tunnels.innermost.Given as goal

abbrev pub invariant-loop-left : goal.invariant-loop-left
invariant-loop-left l = record {
  same : innermost l.left l.beyond (l.ip.version, l.ip.bytes.now) ≡ innermost 5 l.fn.beyond (l.fn.ip.version, l.fn.ip.bytes.now);
  fits : length l.ip.bytes.now + l.beyond < 2 ^ 64;
}

abbrev pub decreases-loop-left : goal.decreases-loop-left
decreases-loop-left l = l.left
