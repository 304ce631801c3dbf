use Rattle.std.proofs.Common.{ap, sym, ◌∙◌}
use Rattle.cqlp_tcp_reassembly.specs.Streams.{Delivery}
use Rattle.cqlp_tcp_reassembly.proofs.laws.one_answer.Goals as goal

pub returns-clause-take : goal.returns-clause-take
returns-clause-take c = λ old g room t u s r x y. (ap (λ (z : Delivery). z.step) (y ∙ sym x), ap (λ (z : Delivery). z.state) (y ∙ sym x))

pub returns-clause-acknowledge : goal.returns-clause-acknowledge
returns-clause-acknowledge c = λ old number t u s r x y. (ap (λ (z : Delivery). z.step) (y ∙ sym x), ap (λ (z : Delivery). z.state) (y ∙ sym x))
