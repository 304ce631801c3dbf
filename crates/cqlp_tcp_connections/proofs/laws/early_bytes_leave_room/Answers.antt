use Rattle.cqlp_tcp_connections.proofs.Sizes.{shares_room}
use Rattle.cqlp_tcp_connections.proofs.laws.early_bytes_leave_room.Goals as goal

pub returns : goal.returns
returns c = shares_room
