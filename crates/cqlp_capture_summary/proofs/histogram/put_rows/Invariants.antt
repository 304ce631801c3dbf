use Rattle.std.proofs.Common.{◌-◌}
use Rattle.std.specs.List.{flat_map}
use Rattle.cqlp_text.proofs.Writing.{Progress}
use Rattle.cqlp_capture_summary.specs.Histograms.{most_in, row, rows}
use Rattle.cqlp_capture_summary.specs.Order.{upto}
use Rattle.cqlp_capture_summary.proofs.histogram.put_rows.Given as goal

abbrev pub invariant-loop-range : goal.invariant-loop-range
invariant-loop-range g l =
    Progress l.fn.writer (rows l.buckets l.timed l.first l.end)
    (flat_map (row l.buckets l.timed (most_in l.buckets 60)) (upto l.range (l.end - l.range))) l.writer
