use Rattle.cqlp_laws.proofs.AskedLimits.{asked_only_cut}
use Rattle.cqlp_laws.proofs.WiderLimits.{only_cut}
use Rattle.cqlp_laws.proofs.limits.limits_only_cut.Goals as goal

pub returns-clause-rules : goal.returns-clause-rules
returns-clause-rules c = only_cut

pub returns-clause-asked : goal.returns-clause-asked
returns-clause-asked c = asked_only_cut
