use Rattle.std.proofs.Common.{sym, ◌∙◌}
use Rattle.cqlp_tcp_segment.specs.Segment.{seen}
use Rattle.cqlp_tcp_connections.proofs.Idle.{table_idle}
use Rattle.cqlp_tcp_connections.specs.Tables.{way_of_first}
use Rattle.cqlp_tcp_connections.proofs.table.Connections.is_done.Goals as goal

pub returns-in-Some : goal.returns-in-Some
returns-in-Some g c = λ yes.
    let t = c.args.self.now in
    table_idle c.in-Some.way (seen c.args.segment.now) c.args.time t (way_of_first c.args.segment.now.head t.known) (sym c.way_of_first.ensures ∙ c.in-Some.is) (rw (← c.self.view_is) (c.is_done.ensures yes))
