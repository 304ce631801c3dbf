use Rattle.std.proofs.Common.{◌≡◌}
use Rattle.cqlp_pattern.specs.Matching.{followers}
use Rattle.cqlp_pattern.proofs.pattern.Pattern.followers.Given as goal

abbrev pub invariant-loop-position : goal.invariant-loop-position
invariant-loop-position l = l.next ≡ followers l.self.follow l.active l.position
