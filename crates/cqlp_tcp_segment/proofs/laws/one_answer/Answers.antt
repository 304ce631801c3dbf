use Rattle.cqlp_tcp_segment.specs.Segment.{segment_of}
use Rattle.cqlp_tcp_segment.proofs.Payload.{one_seen}
use Rattle.cqlp_tcp_segment.proofs.laws.one_answer.Goals as goal

pub returns : goal.returns
returns c = λ link packet original a b p q. one_seen (segment_of link packet original) a b p q
