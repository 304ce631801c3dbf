use Rattle.cqlp_laws.proofs.LenientRuns.{only_goes_on}
use Rattle.cqlp_laws.proofs.lenient.lenient_only_goes_on.Goals as goal

pub returns : goal.returns
returns c = only_goes_on
