use Rattle.cqlp_capture_summary.proofs.InIntervals.{counts_each, intervals_rise}
use Rattle.cqlp_capture_summary.proofs.laws.counts_each_in_one_interval.Goals as goal

pub returns-clause-once : goal.returns-clause-once
returns-clause-once c = counts_each

pub returns-clause-rise : goal.returns-clause-rise
returns-clause-rise c = intervals_rise
