use Rattle.cqlp_capture_summary.proofs.Roomy.{counts_all}
use Rattle.cqlp_capture_summary.proofs.laws.counts_all_where_there_is_room.Goals as goal

pub returns : goal.returns
returns c = counts_all
