use Rattle.cqlp_capture_summary.proofs.Merges.{merge_counts_both}
use Rattle.cqlp_capture_summary.proofs.laws.merge_counts_both.Goals as goal

pub returns : goal.returns
returns c = merge_counts_both
