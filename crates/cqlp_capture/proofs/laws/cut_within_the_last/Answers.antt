use Rattle.cqlp_capture.proofs.Tests.{in_range}
use Rattle.cqlp_capture.proofs.Cuts.{before_cut}
use Rattle.cqlp_capture.proofs.laws.cut_within_the_last.Goals as goal

pub returns : goal.returns
returns c = λ d s es at n range after cut. before_cut d (in_range d.limits range) s es at n after cut
