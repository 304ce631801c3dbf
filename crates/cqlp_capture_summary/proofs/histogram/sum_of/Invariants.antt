use Rattle.std.proofs.Common.{◌≡◌, drop}
use Rattle.cqlp_capture_summary.specs.Histograms.{sum_with}
use Rattle.cqlp_capture_summary.proofs.histogram.sum_of.Given as goal

abbrev pub invariant-loop-count : goal.invariant-loop-count
invariant-loop-count l = sum_with l.sum (drop l.count-index l.counts) ≡ sum_with 0 l.counts
