use Rattle.std.proofs.Common.{◌∙◌, None, ap, replicate}
use Rattle.cqlp_capture_summary.specs.Counts.{tally}
use Rattle.cqlp_capture_summary.proofs.tally.Tally.clear.Goals as goal

pub returns : goal.returns
returns c = ap (tally 0 0 0 0 0 None None 0 0 0) (c.clear_buckets.ensures ∙ ap (λ n. replicate n 0) c.self.invariant.0)
