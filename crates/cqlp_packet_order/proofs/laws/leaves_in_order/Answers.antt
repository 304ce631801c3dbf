use Rattle.cqlp_packet_order.proofs.Running.{leaves_in_order}
use Rattle.cqlp_packet_order.proofs.laws.leaves_in_order.Goals as goal

pub returns : goal.returns
returns c = leaves_in_order
