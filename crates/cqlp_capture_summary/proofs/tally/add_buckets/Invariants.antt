use Rattle.cqlp_capture_summary.proofs.Added.{AddedFrom}
use Rattle.cqlp_capture_summary.proofs.tally.add_buckets.Given as goal

abbrev pub invariant-loop-bucket : goal.invariant-loop-bucket
invariant-loop-bucket l = AddedFrom l.from l.bucket l.more l.initial.buckets l.buckets
