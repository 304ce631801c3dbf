use Rattle.cqlp_laws.proofs.Cuts.{says_cut, cut_says}
use Rattle.cqlp_laws.proofs.limits.limits_cut_at_first_excess.Goals as goal

pub returns : goal.returns
returns c = λ l gifts bytes es v. (says_cut l gifts bytes es v, cut_says l gifts bytes es v)
