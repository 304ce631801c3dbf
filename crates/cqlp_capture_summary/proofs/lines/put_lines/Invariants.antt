use Rattle.std.proofs.Common.{◌-◌, length}
use Rattle.std.specs.List.{flat_map}
use Rattle.cqlp_text.proofs.Writing.{Progress}
use Rattle.cqlp_capture_summary.specs.Lines.{lines, lines_of_rank}
use Rattle.cqlp_capture_summary.specs.Order.{upto}
use Rattle.cqlp_capture_summary.proofs.lines.put_lines.Given as goal

abbrev pub invariant-loop-rank : goal.invariant-loop-rank
invariant-loop-rank g l =
    Progress l.fn.writer (lines l.total l.names l.weights l.tallies)
    (flat_map (lines_of_rank l.total l.names l.weights l.tallies) (upto l.rank (length l.tallies - l.rank))) l.writer
