use Rattle.std.proofs.Common.{◌≡◌, drop}
use Rattle.cqlp_options.specs.Seconds.{with_places}
use Rattle.cqlp_options.proofs.time.with_places.Given as goal

abbrev pub invariant-loop-at : goal.invariant-loop-at
invariant-loop-at l = with_places l.places l.n (drop l.at l.text) ≡ with_places 9 l.whole l.text
