use Rattle.cqlp_tcp_segment.proofs.Payload.{payload_there, payload_all}
use Rattle.cqlp_tcp_segment.proofs.laws.payload_of_packets.Goals as goal

pub returns-clause-there : goal.returns-clause-there
returns-clause-there c = payload_there

pub returns-clause-all : goal.returns-clause-all
returns-clause-all c = payload_all
