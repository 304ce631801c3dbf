use Rattle.std.proofs.Common.{◌≡◌, List, ap, subst, sym, ◌∙◌}
use Rattle.cqlp_tcp_connections.specs.Known.{Known}
use Rattle.cqlp_tcp_connections.specs.Tables.{Table, way_of_first}
use Rattle.cqlp_tcp_connections.proofs.Firsts.{first_known}
use Rattle.cqlp_tcp_connections.proofs.table.Connections.way_of_first.Goals as goal

pub returns : goal.returns
returns g c =
    let head = c.args.head.now in
    let so = first_known c.self.inside.pool.known c.in_ok-ends.ends.now c.in_ok-ends.field-0-1.now c.in_ok-ends.ensures in
    subst (λ (t : Table). c.way_of.result ≡ way_of_first head t.known) c.self.view_is
    (c.way_of.ensures ∙ sym (ap (λ (l : List Known). way_of_first head l) so.is))
