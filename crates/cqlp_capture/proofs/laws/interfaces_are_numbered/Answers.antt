use Rattle.cqlp_capture.proofs.Tests.{in_range}
use Rattle.cqlp_capture.proofs.Packets.{numbered}
use Rattle.cqlp_capture.proofs.laws.interfaces_are_numbered.Goals as goal

pub returns : goal.returns
returns c = λ l s rest es at i q range run. numbered l (in_range l range) s rest es q at i run
