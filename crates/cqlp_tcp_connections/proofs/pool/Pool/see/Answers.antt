use Rattle.std.proofs.Common.{◌≡◌, subst, sym, ◌∙◌}
use Rattle.std.specs.Prelude.{Some, None}
use Rattle.std.specs.Map.{set_value}
use Rattle.lru.specs.LruCache.{promoted}
use Rattle.cqlp_tcp_connections.specs.Pools.{PoolState, known_of, seeing, seen_between}
use Rattle.cqlp_tcp_connections.proofs.Entries.{eq_ends, none_is, see_early, see_is}
use Rattle.cqlp_tcp_connections.proofs.pool.Pool.see.Goals as goal

pub invariant_of-self-2 : goal.invariant_of-self-2
invariant_of-self-2 g c =
    let inv = c.self.invariant in
    (inv.0, inv.1 ∙ sym (see_early c.args.way c.args.head.now c.args.ends.now c.self.inside.cache.entries c.in-Some.connection.now c.see.new.self c.see.result c.in-Some.ensures.value c.see.ensures), inv.2)

pub returns-clause-seen : goal.returns-clause-seen
returns-clause-seen g c =
    let k = c.args.ends.now in
    let es = c.self.inside.cache.entries in
    let h = c.args.head.now in
    let is = see_is c.args.way h k es c.in-Some.connection.now c.see.new.self c.see.result c.in-Some.ensures.value c.see.ensures in
    subst (λ (p : PoolState). seeing (Some c.see.result) (known_of (set_value (eq_ends k) (promoted (eq_ends k) es) c.see.new.self)) ≡ seen_between k c.args.way h p.known) c.self.view_is is

pub returns-in_default-clause-seen : goal.returns-in_default-clause-seen
returns-in_default-clause-seen g c =
    let k = c.args.ends.now in
    let h = c.args.head.now in
    let es = c.self.inside.cache.entries in
    let is = none_is c.args.way h k es c.in_default.ensures.value in
    subst (λ (p : PoolState). seeing None (known_of es) ≡ seen_between k c.args.way h p.known) c.self.view_is is
