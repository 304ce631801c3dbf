use Rattle.cqlp_laws.proofs.DueBytes.{due_ends_with_own, due_there, no_more_than_due, uses_what_is_due}
use Rattle.cqlp_laws.proofs.reading.no_more_events_than_due.Goals as goal

pub returns-clause-due : goal.returns-clause-due
returns-clause-due c = no_more_than_due

pub returns-clause-conforms : goal.returns-clause-conforms
returns-clause-conforms c = due_there

pub returns-clause-ends : goal.returns-clause-ends
returns-clause-ends c = due_ends_with_own

pub returns-clause-decoder : goal.returns-clause-decoder
returns-clause-decoder c = uses_what_is_due
