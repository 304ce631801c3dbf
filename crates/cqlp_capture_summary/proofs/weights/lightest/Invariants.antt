use Rattle.std.proofs.Common.{◌≡◌, ◌<◌, length, drop, Some}
use Rattle.cqlp_capture_summary.specs.Summaries.{lightest, lightest_from}
use Rattle.cqlp_capture_summary.proofs.weights.lightest.Given as goal

abbrev pub invariant-loop-place : goal.invariant-loop-place
invariant-loop-place l =
    (Some (lightest_from l.best l.least l.place (drop l.place l.weights)) ≡ lightest l.weights) × (l.best < length l.weights)
