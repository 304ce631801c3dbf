use Rattle.cqlp_note.proofs.OneAnswer.{one_bool}
use Rattle.cqlp_type.specs.Table.{AreWhole}
use Rattle.cqlp_type.proofs.laws.one_answer_of_whole.Goals as goal

pub returns : goal.returns
returns c = λ nodes a b x y. one_bool (AreWhole nodes) a b x y
