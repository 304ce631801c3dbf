use Rattle.std.proofs.Common.{arith}
use Rattle.cqlp_capture_summary.proofs.Bounds.{bucket_within}
use Rattle.cqlp_capture_summary.proofs.buckets.bucket_of.Goals as goal

pub overflow_add-result : goal.overflow_add-result
overflow_add-result c =
    let e = c.saturating_sub-dropped.ensures in
    rw e (let w = bucket_within c.args.time c.ranges.time.fits in omega (arith, w))

pub returns-clause-within : goal.returns-clause-within
returns-clause-within c =
    let e = c.saturating_sub-dropped.ensures in
    rw e (bucket_within c.args.time c.ranges.time.fits)
