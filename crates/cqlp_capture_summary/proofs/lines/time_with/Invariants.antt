use Rattle.std.proofs.Common.{◌≡◌, drop}
use Rattle.cqlp_capture_summary.specs.Lines.{time_with}
use Rattle.cqlp_capture_summary.proofs.lines.time_with.Given as goal

abbrev pub invariant-loop-tally : goal.invariant-loop-tally
invariant-loop-tally l = time_with l.sum (drop l.tally-index l.tallies) ≡ time_with l.time l.tallies
