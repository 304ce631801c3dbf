use Rattle.cqlp_c.proofs.Ending.{one_over_skips}
use Rattle.cqlp_c.proofs.laws.one_answer_over_skips.Goals as goal

pub returns : goal.returns
returns c = one_over_skips
