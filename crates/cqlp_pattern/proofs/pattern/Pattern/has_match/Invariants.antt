use Rattle.std.proofs.Common.{◌≡◌, ◌++◌, drop}
use Rattle.cqlp_pattern.specs.Matching.{end, is_found, step}
use Rattle.cqlp_pattern.proofs.pattern.Pattern.has_match.Given as goal

abbrev pub invariant-loop-at : goal.invariant-loop-at
invariant-loop-at l = is_found l.self l.active (drop l.at l.text ++ end l.is_whole) ≡ is_found l.self (step l.self 0 256) (l.text ++ end l.is_whole)
