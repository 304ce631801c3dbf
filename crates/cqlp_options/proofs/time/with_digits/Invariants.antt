use Rattle.std.proofs.Common.{◌≡◌, drop}
use Rattle.cqlp_options.specs.Seconds.{with_digits}
use Rattle.cqlp_options.proofs.time.with_digits.Given as goal

abbrev pub invariant-loop-at : goal.invariant-loop-at
invariant-loop-at l = with_digits l.n (drop l.at l.text) ≡ with_digits l.whole l.text
