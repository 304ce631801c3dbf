use Rattle.std.proofs.Common.{◌∙◌, sym}
use Rattle.cqlp_capture.proofs.laws.one_answer_of_finish.Goals as goal

pub returns : goal.returns
returns c = λ d x y a b. b ∙ sym a
