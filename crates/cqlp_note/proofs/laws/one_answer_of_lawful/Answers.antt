use Rattle.cqlp_note.specs.Heading.{IsLawful}
use Rattle.cqlp_note.proofs.OneAnswer.{one_bool}
use Rattle.cqlp_note.proofs.laws.one_answer_of_lawful.Goals as goal

pub returns : goal.returns
returns c = λ h a b. one_bool (IsLawful h) a b
