use Rattle.std.proofs.Common.{◌≡◌, subst}
use Rattle.std.specs.Prelude.{option_map}
use Rattle.std.specs.Map.Iter.{deref_pair}
use Rattle.cqlp_tcp_segment.specs.Segment.{seen}
use Rattle.cqlp_tcp_connections.specs.Known.{pulled}
use Rattle.cqlp_tcp_connections.specs.Tables.{room_in}
use Rattle.cqlp_tcp_connections.specs.Pools.{first_of}
use Rattle.cqlp_tcp_connections.proofs.Firsts.{first_known}
use Rattle.cqlp_tcp_connections.proofs.Idle.{first_idle}
use Rattle.cqlp_tcp_connections.proofs.pool.Pool.is_done.Goals as goal

pub returns-in-Some : goal.returns-in-Some
returns-in-Some g c = λ yes.
    let p = c.args.self.now in
    let first = subst (λ r. option_map deref_pair r ≡ first_of p.known) c.in-Some.is c.first.ensures in
    let room = room_in p.limits p.known in
    first_idle (λ f. pulled c.args.way (seen c.args.segment.now) c.args.time room f) p.known _ _ (first_known p.known _ _ first) (c.is_done.ensures yes room)
