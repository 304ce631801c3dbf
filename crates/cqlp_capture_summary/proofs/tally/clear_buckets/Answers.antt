use Rattle.std.proofs.Common.{arith}
use Rattle.cqlp_capture_summary.proofs.Added.{cleared_all, cleared_next, cleared_none}
use Rattle.cqlp_capture_summary.proofs.tally.clear_buckets.Goals as goal

pub loop-bucket-init : goal.loop-bucket-init
loop-bucket-init c = cleared_none c.args.from c.args.buckets.now

pub loop-bucket-preserved : goal.loop-bucket-preserved
loop-bucket-preserved c =
    let most = c.requires.within in
    cleared_next c.args.from c.loop-bucket.bucket c.args.buckets.now c.loop-bucket.buckets (omega arith) (omega (arith, most)) c.loop-bucket.invariant

pub returns : goal.returns
returns c = cleared_all c.args.from c.args.end c.loop-bucket.bucket c.args.buckets.now c.loop-bucket.buckets c.requires.none (omega arith) c.loop-bucket.invariant
