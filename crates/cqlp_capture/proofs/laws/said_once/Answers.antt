use Rattle.cqlp_capture.proofs.Tests.{in_range}
use Rattle.cqlp_capture.proofs.Whole.{always_said, says_once}
use Rattle.cqlp_capture.proofs.laws.said_once.Goals as goal

pub returns-clause-some : goal.returns-clause-some
returns-clause-some c = λ l bytes range. always_said l (in_range l range) bytes

pub returns-clause-once : goal.returns-clause-once
returns-clause-once c = says_once
