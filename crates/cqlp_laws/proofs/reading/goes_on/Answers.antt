use Rattle.std.proofs.Common.{◌∙◌, sym}
use Rattle.cqlp_laws.proofs.Whole.{events_go_on, refusal_stays}
use Rattle.cqlp_laws.proofs.reading.goes_on.Goals as goal

pub returns : goal.returns
returns c = λ l p bytes t es es' v v' a b.
    (events_go_on l p bytes t es es' v v' a b, λ k why is. let stays = refusal_stays l p bytes t es es' v v' a b k why is in (stays.0, stays.1 ∙ sym is))
