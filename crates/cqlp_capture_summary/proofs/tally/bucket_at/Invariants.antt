use Rattle.std.proofs.Common.{◌≡◌, drop}
use Rattle.cqlp_capture_summary.specs.Tallies.{bucket_at}
use Rattle.cqlp_capture_summary.proofs.tally.bucket_at.Given as goal

abbrev pub invariant-loop-bucket : goal.invariant-loop-bucket
invariant-loop-bucket l = bucket_at l.left l.bucket (drop l.bucket l.buckets) ≡ bucket_at l.rank 0 l.buckets
