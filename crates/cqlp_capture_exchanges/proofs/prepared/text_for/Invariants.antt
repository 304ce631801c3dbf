use Rattle.std.proofs.Common.{◌≡◌, drop}
use Rattle.cqlp_capture_exchanges.specs.Prepared.{text_for}
use Rattle.cqlp_capture_exchanges.proofs.prepared.text_for.Given as goal

abbrev pub invariant-loop-one : goal.invariant-loop-one
invariant-loop-one g l = text_for (drop l.one-index l.known) l.id ≡ text_for l.known l.id
