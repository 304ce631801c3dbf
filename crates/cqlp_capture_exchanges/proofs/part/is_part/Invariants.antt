use Rattle.std.proofs.Common.{◌≡◌, drop}
use Rattle.cqlp_capture_exchanges.specs.Parts.{is_part}
use Rattle.cqlp_capture_exchanges.proofs.part.is_part.Given as goal

abbrev pub invariant-loop-at : goal.invariant-loop-at
invariant-loop-at l = is_part l.part (drop l.at l.text) ≡ is_part l.part l.text
