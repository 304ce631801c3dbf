use Rattle.cqlp_capture_summary.proofs.Bounds.{greatest_in_range}
use Rattle.cqlp_capture_summary.proofs.buckets.greatest_in.Goals as goal

pub overflow_mul-result-2 : goal.overflow_mul-result-2
overflow_mul-result-2 c = (greatest_in_range c.args.bucket c.saturating_sub-digits.result c.requires c.saturating_sub-digits.ensures).0

pub overflow_add-result : goal.overflow_add-result
overflow_add-result c = (greatest_in_range c.args.bucket c.saturating_sub-digits.result c.requires c.saturating_sub-digits.ensures).1
