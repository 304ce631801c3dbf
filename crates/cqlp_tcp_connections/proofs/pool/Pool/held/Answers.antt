use Rattle.std.proofs.Common.{◌≡◌, List, ap, subst, sym, ◌∙◌}
use Rattle.std.specs.Prelude.{option_map}
use Rattle.std.specs.Map.Iter.{deref_pair}
use Rattle.cqlp_tcp_connections.specs.Known.{Known}
use Rattle.cqlp_tcp_connections.specs.Tables.{held_of}
use Rattle.cqlp_tcp_connections.specs.Pools.{first_of}
use Rattle.cqlp_tcp_connections.proofs.Firsts.{first_known, none_known}
use Rattle.cqlp_tcp_connections.proofs.pool.Pool.held.Goals as goal

pub returns-in-Some : goal.returns-in-Some
returns-in-Some g c =
    let ks = c.args.self.now.known in
    let first = subst (λ r. option_map deref_pair r ≡ first_of ks) c.in-Some.is c.first.ensures in
    let so = first_known ks _ _ first in
    c.held.ensures ∙ sym (ap (λ (l : List Known). held_of c.args.way l) so.is)

pub returns-in-None : goal.returns-in-None
returns-in-None g c =
    let ks = c.args.self.now.known in
    let first = subst (λ r. option_map deref_pair r ≡ first_of ks) c.in-None.is c.first.ensures in
    sym (ap (λ (l : List Known). held_of c.args.way l) (none_known ks first))
