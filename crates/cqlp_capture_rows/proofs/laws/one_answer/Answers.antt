use Rattle.std.proofs.Common.{◌∙◌, sym}
use Rattle.cqlp_capture_rows.proofs.laws.one_answer.Goals as goal

pub returns-clause-new : goal.returns-clause-new
returns-clause-new c = λ given asked out e f a b. b ∙ sym a

pub returns-clause-hear : goal.returns-clause-hear
returns-clause-hear c = λ before e f s u v a b. b ∙ sym a
