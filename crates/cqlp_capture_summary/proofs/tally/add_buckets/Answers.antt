use Rattle.std.proofs.Common.{arith}
use Rattle.cqlp_capture_summary.proofs.Added.{added_all, added_next, added_none}
use Rattle.cqlp_capture_summary.proofs.tally.add_buckets.Goals as goal

pub loop-bucket-init : goal.loop-bucket-init
loop-bucket-init c = added_none c.args.from c.args.more.now c.args.buckets.now (λ k within. let f = c.type_inv.buckets k in omega (arith, f))

pub loop-bucket-preserved : goal.loop-bucket-preserved
loop-bucket-preserved c =
    let long = c.requires.long in
    let most = c.requires.within in
    added_next c.args.from c.loop-bucket.bucket c.saturating_add.result c.args.more.now c.args.buckets.now c.loop-bucket.buckets (omega arith) (omega (arith, long, most))
    c.saturating_add.ensures c.loop-bucket.invariant

pub returns : goal.returns
returns c =
    added_all c.args.from c.args.end c.loop-bucket.bucket c.args.more.now c.args.buckets.now c.loop-bucket.buckets c.requires.long c.requires.none (omega arith)
    c.loop-bucket.invariant
