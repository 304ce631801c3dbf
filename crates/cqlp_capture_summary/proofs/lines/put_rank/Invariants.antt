use Rattle.std.proofs.Common.{◌-◌, length}
use Rattle.std.specs.List.{flat_map}
use Rattle.cqlp_text.proofs.Writing.{Progress}
use Rattle.cqlp_capture_summary.specs.Lines.{line_if, lines_of_rank}
use Rattle.cqlp_capture_summary.specs.Order.{upto}
use Rattle.cqlp_capture_summary.proofs.lines.put_rank.Given as goal

abbrev pub invariant-loop-place : goal.invariant-loop-place
invariant-loop-place g l =
    Progress l.fn.writer (lines_of_rank l.total l.names l.weights l.tallies l.rank)
    (flat_map (line_if l.total l.names l.weights l.tallies l.rank) (upto l.place (length l.tallies - l.place))) l.writer
