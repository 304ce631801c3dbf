use Rattle.std.proofs.Common.{◌∙◌, sym}
use Rattle.cqlp_capture_summary.proofs.laws.one_answer.Goals as goal

pub returns-clause-new : goal.returns-clause-new
returns-clause-new c = λ n s t a b. b ∙ sym a

pub returns-clause-note : goal.returns-clause-note
returns-clause-note c = λ old s t o a b. b ∙ sym a
