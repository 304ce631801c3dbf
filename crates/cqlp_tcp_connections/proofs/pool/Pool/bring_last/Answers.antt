use Rattle.std.proofs.Common.{◌≡◌, ap, subst, sym, ◌∙◌}
use Rattle.std.specs.Prelude.{Some, option_map}
use Rattle.std.specs.Map.Iter.{deref_pair}
use Rattle.lru.specs.LruCache.{last_entry}
use Rattle.cqlp_tcp_connections.specs.Tables.{early_of, last_first}
use Rattle.cqlp_tcp_connections.specs.Pools.{PoolState, known_of, pool, with_known}
use Rattle.cqlp_tcp_connections.proofs.Entries.{ends_eq, eq_ends, promote_early, promote_last}
use Rattle.cqlp_tcp_connections.proofs.pool.Pool.bring_last.Goals as goal

pub invariant_of-self : goal.invariant_of-self
invariant_of-self g c =
    let inv = c.self.invariant in
    let k = c.in-Some.ends.now in
    let e = c.promote.ensures.entries in (
      ap (λ z. z.cap) e ∙ inv.0,
      inv.1 ∙ sym (ap (λ z. early_of (known_of z.entries)) e ∙ promote_early k _ (λ x. ends_eq k x) c.self.inside.cache.entries),
      inv.2,
    )

pub returns : goal.returns
returns g c =
    let i = c.self.inside in
    let es = i.cache.entries in
    let last : last_entry es ≡ Some (c.in-Some.ends.now, c.in-Some.field-0-1.now) =
    sym (subst (λ r. option_map deref_pair r ≡ last_entry es) c.in-Some.is c.peek_lru.ensures) in
    let is = promote_last eq_ends ends_eq es (c.in-Some.ends.now, c.in-Some.field-0-1.now) last c.len.ensures.valid.0 in
    subst (λ (p : PoolState). pool i.limits (known_of c.promote.new.self.entries) ≡ with_known (last_first p.known) p) c.self.view_is
    (ap (λ z. pool i.limits (known_of z.entries)) c.promote.ensures.entries ∙ ap (λ ks. pool i.limits ks) is)
