use Rattle.std.proofs.Common.{arith, refl}
use Rattle.cqlp_capture_summary.proofs.Added.{none_in_none}
use Rattle.cqlp_capture_summary.proofs.tally.Tally.new.Goals as goal

pub invariant_of-result : goal.invariant_of-result
invariant_of-result c = (refl, omega arith, none_in_none 1920 1920 0)
