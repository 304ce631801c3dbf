use Rattle.std.proofs.Common.{◌∙◌, sym}
use Rattle.cqlp_capture_prepared.proofs.laws.one_answer.Goals as goal

pub returns : goal.returns
returns c n m p q is it = it ∙ sym is
