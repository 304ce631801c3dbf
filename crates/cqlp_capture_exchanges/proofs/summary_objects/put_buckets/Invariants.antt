use Rattle.std.proofs.Common.{true, drop}
use Rattle.cqlp_text.proofs.Writing.{Progress}
use Rattle.cqlp_capture_exchanges.specs.SummaryObjects.{buckets_text}
use Rattle.cqlp_capture_exchanges.proofs.summary_objects.put_buckets.Given as goal

abbrev pub invariant-loop-bucket : goal.invariant-loop-bucket
invariant-loop-bucket g l =
    Progress l.fn.writer (buckets_text true 0 l.buckets) (buckets_text l.is_first l.bucket (drop l.bucket l.buckets)) l.writer
