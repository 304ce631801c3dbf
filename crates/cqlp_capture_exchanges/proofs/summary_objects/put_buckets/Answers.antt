use Rattle.std.proofs.Common.{refl}
use Rattle.cqlp_text.proofs.Writing.{progress_ends, progress_goes_on, progress_stops}
use Rattle.cqlp_capture_exchanges.proofs.SummaryObjects.{buckets_at, no_buckets}
use Rattle.cqlp_capture_exchanges.proofs.summary_objects.put_buckets.Goals as goal

pub returns-in_err-put_bucket : goal.returns-in_err-put_bucket
returns-in_err-put_bucket g c =
    progress_stops _ c.from_residual.result c.from_residual.ensures.0 c.loop-bucket.invariant
    (buckets_at c.loop-bucket.is_first _ c.loop-bucket.bucket c.args.buckets.now refl c.loop-bucket-test.true) c.in_err-put_bucket.ensures

pub loop-bucket-preserved : goal.loop-bucket-preserved
loop-bucket-preserved g c =
    progress_goes_on _ c.loop-bucket.invariant
    (buckets_at c.loop-bucket.is_first _ c.loop-bucket.bucket c.args.buckets.now c.is_still_first-is_first.ensures c.loop-bucket-test.true) c.in_ok-put_bucket.ensures

pub returns : goal.returns
returns g c = progress_ends c.loop-bucket.invariant (no_buckets c.loop-bucket.is_first c.loop-bucket.bucket c.args.buckets.now (c.loop-bucket-test.false))
