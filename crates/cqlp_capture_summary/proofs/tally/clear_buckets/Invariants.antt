use Rattle.cqlp_capture_summary.proofs.Added.{ClearedFrom}
use Rattle.cqlp_capture_summary.proofs.tally.clear_buckets.Given as goal

abbrev pub invariant-loop-bucket : goal.invariant-loop-bucket
invariant-loop-bucket l = ClearedFrom l.from l.bucket l.initial.buckets l.buckets
