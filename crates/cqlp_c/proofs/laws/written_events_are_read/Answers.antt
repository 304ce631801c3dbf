use Rattle.cqlp_c.proofs.AllWritten.{has_header, reads_back}
use Rattle.cqlp_c.proofs.laws.written_events_are_read.Goals as goal

pub returns-clause-header : goal.returns-clause-header
returns-clause-header c = λ es bytes w. has_header es bytes w

pub returns-clause-written : goal.returns-clause-written
returns-clause-written c = λ h fields bytes w. reads_back h fields bytes w
