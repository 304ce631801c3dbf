use Rattle.std.proofs.Common.{sym, ◌∙◌}
use Rattle.cqlp_note.proofs.laws.one_answer_of_new.Goals as goal

pub returns : goal.returns
returns c = λ size p q a b. record { room = a.room ∙ sym b.room; under_way = a.idle ∙ sym b.idle; seen = a.none ∙ sym b.none; content = a.empty ∙ sym b.empty }
