use Rattle.cqlp_capture_summary.proofs.Bounds.{in_bucket}
use Rattle.cqlp_capture_summary.proofs.laws.lies_in_its_bucket.Goals as goal

pub returns : goal.returns
returns c = λ time fits. let i = in_bucket time fits in (i.high, i.near)
