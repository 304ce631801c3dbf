use Rattle.std.proofs.Common.{◌≡◌, ◌-◌}
use Rattle.cqlp_capture_summary.specs.Histograms.{most_in, most_with}
use Rattle.cqlp_capture_summary.specs.Order.{upto}
use Rattle.cqlp_capture_summary.proofs.histogram.most_in.Given as goal

abbrev pub invariant-loop-range : goal.invariant-loop-range
invariant-loop-range l = most_with l.most l.buckets (upto l.range (l.ranges - l.range)) ≡ most_in l.buckets l.ranges
