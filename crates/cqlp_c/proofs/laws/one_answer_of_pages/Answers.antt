use Rattle.cqlp_c.proofs.PagesOnce.{one_answer_of_begin, one_answer_of_put}
use Rattle.cqlp_c.proofs.laws.one_answer_of_pages.Goals as goal

pub returns-clause-begin : goal.returns-clause-begin
returns-clause-begin c = λ cs contents before size a b x y one other was t u v w. one_answer_of_begin cs contents before size a b x y one other was t u v w

pub returns-clause-put : goal.returns-clause-put
returns-clause-put c = λ p cs contents before a b x y one other was t u v w. one_answer_of_put p cs contents before a b x y one other was t u v w
