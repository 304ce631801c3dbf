use Rattle.cqlp_note.proofs.Wholes.{one_front}
use Rattle.cqlp_note.proofs.laws.one_answer_of_front_field.Goals as goal

pub returns : goal.returns
returns c = λ n limit room input a b. one_front n limit room input a b
