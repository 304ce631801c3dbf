use Rattle.std.proofs.Common.{◌≡◌, ◌<◌, ◌+◌, ◌∷◌, ap, subst, sym, ◌∙◌, arith}
use Rattle.std.specs.Prelude.{None, length}
use Rattle.cqlp_tcp_connections.specs.Known.{counted_on, known, new_flows, size_of}
use Rattle.cqlp_tcp_connections.specs.Tables.{early_of, found_in}
use Rattle.cqlp_tcp_connections.specs.Pools.{PoolState, known_of, pool, with_known}
use Rattle.cqlp_tcp_connections.proofs.Entries.{put_is}
use Rattle.cqlp_tcp_connections.proofs.Sizes.{counted_size}
use Rattle.cqlp_tcp_connections.proofs.pool.Pool.add.Goals as goal

pub invariant_of-self-2 : goal.invariant_of-self-2
invariant_of-self-2 g c =
    let i = c.self.inside in
    let es = i.cache.entries in
    let inv = c.self.invariant in
    let k = c.args.ends in
    let v = c.count_segment.new.self in
    let w = counted_on c.args.way (new_flows c.args.number) in
    let made : v ≡ w = c.count_segment.ensures ∙ ap (counted_on c.args.way) c.in_ok-connection.ensures in
    let absent : found_in k (known_of es) ≡ None = subst (λ (p : PoolState). found_in k p.known ≡ None) (sym c.self.view_is) c.requires.absent in
    let room = subst (λ (p : PoolState). length p.known < p.limits.connections) (sym c.self.view_is) c.requires.room in
    let put = put_is es i.cache.cap k v absent (subst (λ n. length (known_of es) < n) (sym inv.0) room) in
    let none : size_of w ≡ 0 = counted_size c.args.way (new_flows c.args.number) in (
      ap (λ z. z.cap) c.in_ok-put.ensures.entries ∙ inv.0,
      inv.1
          ∙ sym (ap (λ z. early_of (known_of z.entries)) c.in_ok-put.ensures.entries
          ∙ ap (λ l. early_of (known_of l)) put
          ∙ ap (λ x. size_of x + early_of (known_of es)) made
          ∙ ap (λ n. n + early_of (known_of es)) none
          ∙ (let zero : 0 + early_of (known_of es) ≡ early_of (known_of es) = omega arith in zero)),
      inv.2,
    )

pub returns-clause-added : goal.returns-clause-added
returns-clause-added g c =
    let i = c.self.inside in
    let es = i.cache.entries in
    let inv = c.self.invariant in
    let k = c.args.ends in
    let v = c.count_segment.new.self in
    let w = counted_on c.args.way (new_flows c.args.number) in
    let made : v ≡ w = c.count_segment.ensures ∙ ap (counted_on c.args.way) c.in_ok-connection.ensures in
    let absent : found_in k (known_of es) ≡ None = subst (λ (p : PoolState). found_in k p.known ≡ None) (sym c.self.view_is) c.requires.absent in
    let room = subst (λ (p : PoolState). length p.known < p.limits.connections) (sym c.self.view_is) c.requires.room in
    let put = put_is es i.cache.cap k v absent (subst (λ n. length (known_of es) < n) (sym inv.0) room) in
    subst (λ (p : PoolState). pool i.limits (known_of c.put.new.self.entries) ≡ with_known (known k w ∷ p.known) p) c.self.view_is
    (ap (λ z. pool i.limits (known_of z.entries)) c.in_ok-put.ensures.entries
    ∙ ap (λ l. pool i.limits (known_of l)) put
    ∙ ap (λ x. pool i.limits (known k x ∷ known_of es)) made)
