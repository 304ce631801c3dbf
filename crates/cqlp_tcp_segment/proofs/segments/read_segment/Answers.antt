use Rattle.cqlp_tcp_segment.proofs.Payload.{carried_shorter}
use Rattle.cqlp_tcp_segment.proofs.segments.read_segment.Goals as goal

pub overflow_sub-result : goal.overflow_sub-result
overflow_sub-result c = carried_shorter c.args.link c.args.packet.now c.saturating_sub-beyond.result _ _ c.in_ok-ip.ensures c.in_ok-carried.ensures
