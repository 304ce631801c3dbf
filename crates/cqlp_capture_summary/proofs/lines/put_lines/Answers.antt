use Rattle.std.proofs.Common.{ap, length}
use Rattle.std.proofs.Math.Nat.{sub-zero}
use Rattle.std.specs.List.{flat_map}
use Rattle.cqlp_text.proofs.Writing.{progress_ends, progress_goes_on, progress_starts, progress_stops}
use Rattle.cqlp_capture_summary.specs.Lines.{lines_of_rank}
use Rattle.cqlp_capture_summary.proofs.Lists.{upto_next, upto_none}
use Rattle.cqlp_capture_summary.proofs.lines.put_lines.Goals as goal

pub loop-rank-init : goal.loop-rank-init
loop-rank-init g c = rw (sub-zero (length c.args.tallies.now)) (progress_starts _ _)

pub returns-in_err-put_rank : goal.returns-in_err-put_rank
returns-in_err-put_rank g c =
    progress_stops _ c.from_residual.result c.from_residual.ensures.0 c.loop-rank.invariant
    (ap (flat_map (lines_of_rank c.args.total c.args.names.now c.args.weights.now c.args.tallies.now)) (upto_next c.loop-rank.rank (length c.args.tallies.now) c.loop-rank-test.true))
    c.in_err-put_rank.ensures

pub loop-rank-preserved : goal.loop-rank-preserved
loop-rank-preserved g c =
    progress_goes_on _ c.loop-rank.invariant
    (ap (flat_map (lines_of_rank c.args.total c.args.names.now c.args.weights.now c.args.tallies.now)) (upto_next c.loop-rank.rank (length c.args.tallies.now) c.loop-rank-test.true))
    c.in_ok-put_rank.ensures

pub returns : goal.returns
returns g c =
    progress_ends c.loop-rank.invariant
    (ap (flat_map (lines_of_rank c.args.total c.args.names.now c.args.weights.now c.args.tallies.now)) (upto_none c.loop-rank.rank (length c.args.tallies.now) (c.loop-rank-test.false)))
