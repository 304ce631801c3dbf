use Rattle.cqlp_laws.proofs.EventCounts.{always_said}
use Rattle.cqlp_laws.proofs.Whole.{says_once}
use Rattle.cqlp_laws.proofs.reading.said_once.Goals as goal

pub returns-clause-some : goal.returns-clause-some
returns-clause-some c = always_said

pub returns-clause-once : goal.returns-clause-once
returns-clause-once c = says_once
