use Rattle.std.proofs.Common.{ap, length}
use Rattle.std.proofs.Math.Nat.{sub-zero}
use Rattle.std.specs.List.{flat_map}
use Rattle.cqlp_text.proofs.Writing.{progress_ends, progress_goes_on, progress_starts, progress_stops}
use Rattle.cqlp_capture_summary.specs.Lines.{line_if}
use Rattle.cqlp_capture_summary.proofs.Lists.{upto_next, upto_none}
use Rattle.cqlp_capture_summary.proofs.lines.put_rank.Goals as goal

pub loop-place-init : goal.loop-place-init
loop-place-init g c = rw (sub-zero (length c.args.tallies.now)) (progress_starts _ _)

pub returns-in_err-put_if : goal.returns-in_err-put_if
returns-in_err-put_if g c =
    progress_stops _ c.from_residual.result c.from_residual.ensures.0 c.loop-place.invariant
    (ap (flat_map (line_if c.args.total c.args.names.now c.args.weights.now c.args.tallies.now c.args.rank)) (upto_next c.loop-place.place (length c.args.tallies.now) c.loop-place-test.true))
    c.in_err-put_if.ensures

pub loop-place-preserved : goal.loop-place-preserved
loop-place-preserved g c =
    progress_goes_on _ c.loop-place.invariant
    (ap (flat_map (line_if c.args.total c.args.names.now c.args.weights.now c.args.tallies.now c.args.rank)) (upto_next c.loop-place.place (length c.args.tallies.now) c.loop-place-test.true))
    c.in_ok-put_if.ensures

pub returns : goal.returns
returns g c =
    progress_ends c.loop-place.invariant
    (ap (flat_map (line_if c.args.total c.args.names.now c.args.weights.now c.args.tallies.now c.args.rank)) (upto_none c.loop-place.place (length c.args.tallies.now) (c.loop-place-test.false)))
