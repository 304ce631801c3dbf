use Rattle.std.proofs.Common.{◌≡◌, ◌==◌, ◌&&◌, nat_lt, ◌≤◌, ◌-◌, length, take}
use Rattle.std.specs.Io.KnownBytes.{Appends}
use Rattle.cqlp_note.specs.Streams.{counted}
use Rattle.cqlp_note.proofs.offering.offer.Given as goal

abbrev pub invariant-loop-sent : goal.invariant-loop-sent
invariant-loop-sent g l =
    (l.sent ≤ length l.bytes)
    × Appends (g.W.Target.contents l.initial.target) (g.W.Target.contents l.target) (take l.sent l.bytes)
    × (g.W.Target.failures l.target ≡ g.W.Target.failures l.initial.target)
    × (g.W.Target.writes l.target ≡ counted (nat_lt 0 (length l.bytes) && (l.sent == length l.bytes)) (g.W.Target.writes l.initial.target))

abbrev pub decreases-loop-sent : goal.decreases-loop-sent
decreases-loop-sent g l = length l.bytes - l.sent
