use Rattle.std.proofs.Common.{◌≡◌, drop}
use Rattle.cqlp_capture_exchanges.specs.Prepared.{response_for}
use Rattle.cqlp_capture_exchanges.proofs.prepared.response_for.Given as goal

abbrev pub invariant-loop-one : goal.invariant-loop-one
invariant-loop-one g l = response_for (drop l.one-index l.known) l.id ≡ response_for l.known l.id
