use Rattle.cqlp_capture_summary.proofs.Sums.{sums_are_exact}
use Rattle.cqlp_capture_summary.proofs.laws.sums_are_exact.Goals as goal

pub returns : goal.returns
returns c = sums_are_exact
