use Rattle.cqlp_capture.proofs.Whole.{events_go_on, refusal_stays}
use Rattle.cqlp_capture.proofs.laws.goes_on.Goals as goal

pub returns : goal.returns
returns c = λ l p bytes t es es' v v' a b.
    (events_go_on l p bytes t es es' v v' a b, refusal_stays l p bytes t es es' v v' a b)
