use Rattle.cqlp_observer_facts.proofs.Stay.{keeps_facts}
use Rattle.cqlp_observer_facts.proofs.laws.facts_stay.Goals as goal

pub returns : goal.returns
returns c = keeps_facts
