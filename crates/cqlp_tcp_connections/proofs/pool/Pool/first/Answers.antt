use Rattle.std.proofs.Common.{◌≡◌, subst, ◌∙◌}
use Rattle.std.specs.Prelude.{option_map}
use Rattle.std.specs.Map.Iter.{deref_pair}
use Rattle.cqlp_tcp_connections.specs.Pools.{PoolState, first_of}
use Rattle.cqlp_tcp_connections.proofs.Entries.{first_is}
use Rattle.cqlp_tcp_connections.proofs.pool.Pool.first.Goals as goal

pub returns : goal.returns
returns g c =
    subst (λ (p : PoolState). option_map deref_pair c.peek_mru.result ≡ first_of p.known) c.self.view_is
    (c.peek_mru.ensures ∙ first_is c.self.inside.cache.entries)
