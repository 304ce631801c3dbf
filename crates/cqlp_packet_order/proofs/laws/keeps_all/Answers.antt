use Rattle.cqlp_packet_order.proofs.Running.{keeps_all}
use Rattle.cqlp_packet_order.proofs.laws.keeps_all.Goals as goal

pub returns : goal.returns
returns c = keeps_all
