use Rattle.cqlp_capture.proofs.Tests.{in_range}
use Rattle.cqlp_capture.proofs.Packets.{bytes_there, bytes_after_head}
use Rattle.cqlp_capture.proofs.laws.bytes_of_packets.Goals as goal

pub returns-clause-there : goal.returns-clause-there
returns-clause-there c = λ l s rest es at b q range run. bytes_there l (in_range l range) s rest es q at b run

pub returns-clause-follow : goal.returns-clause-follow
returns-clause-follow c = λ l s rest es at next h e q range run. bytes_after_head l (in_range l range) s rest es q at h next e run
