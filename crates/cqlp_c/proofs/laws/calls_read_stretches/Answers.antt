use Rattle.cqlp_skip.proofs.Skips.{starts}
use Rattle.std.proofs.Common.{refl}
use Rattle.cqlp_c.proofs.Ending.{finishes}
use Rattle.cqlp_c.proofs.Skipping.{skips}
use Rattle.cqlp_c.proofs.Stretching.{reads_on}
use Rattle.cqlp_c.proofs.laws.calls_read_stretches.Goals as goal

pub returns-clause-new : goal.returns-clause-new
returns-clause-new c = λ limits lenient xs d new. record { conforms = starts d xs new.fresh new.unrefused; frame = refl }

pub returns-clause-next : goal.returns-clause-next
returns-clause-next c = reads_on

pub returns-clause-skip : goal.returns-clause-skip
returns-clause-skip c = λ xs s old new from to stretches gifts events code was written. skips xs s old new from to stretches gifts events code was written

pub returns-clause-finish : goal.returns-clause-finish
returns-clause-finish c = finishes
