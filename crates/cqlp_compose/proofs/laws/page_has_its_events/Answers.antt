use Rattle.cqlp_compose.proofs.Whole.{has_its_events}
use Rattle.cqlp_compose.proofs.laws.page_has_its_events.Goals as goal

pub returns : goal.returns
returns c = λ f n ps end begins are done. has_its_events f n ps end begins are done
