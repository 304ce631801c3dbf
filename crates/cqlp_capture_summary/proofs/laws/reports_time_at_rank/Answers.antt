use Rattle.cqlp_capture_summary.proofs.Reported.{reports_time_at_rank}
use Rattle.cqlp_capture_summary.proofs.laws.reports_time_at_rank.Goals as goal

pub returns : goal.returns
returns c = reports_time_at_rank
