use Rattle.std.proofs.Common.{◌∙◌, sym}
use Rattle.cqlp_capture_exchanges.proofs.laws.one_answer.Goals as goal

pub returns-clause-new : goal.returns-clause-new
returns-clause-new c = λ limits given filter form out e f a b. b ∙ sym a

pub returns-clause-hear : goal.returns-clause-hear
returns-clause-hear c = λ before e f s u v a b. b ∙ sym a

pub returns-clause-statement : goal.returns-clause-statement
returns-clause-statement c = λ h body x y a b. b ∙ sym a
