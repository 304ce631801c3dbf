use Rattle.std.proofs.Common.{◌≡◌, ◌≤◌, ap, subst, sym, arith}
use Rattle.std.specs.Map.{set_value}
use Rattle.cqlp_tcp_connections.specs.Tables.{first_becomes}
use Rattle.cqlp_tcp_connections.specs.Pools.{PoolState, known_of, pool, with_known}
use Rattle.cqlp_tcp_connections.proofs.Entries.{IsCall, call_becomes, call_less, call_sum, eq_ends, is_call, no_call}
use Rattle.cqlp_tcp_connections.specs.Known.{passed, size_of}
use Rattle.cqlp_tcp_connections.proofs.Sizes.{passed_size}
use Rattle.cqlp_tcp_connections.proofs.pool.Pool.pass_held.Goals as goal

pub returns-in_default-peek_mut : goal.returns-in_default-peek_mut
returns-in_default-peek_mut g c =
    no_call c.self.inside.cache.entries c.self.inside.limits c.args.self.now c.in-Some.ends c.first_ends.result c.self.view_is c.in-Some.is c.first_ends.ensures c.in_default-peek_mut.ensures.value

pub size-before-requires : goal.size-before-requires
size-before-requires g c =
    let i = c.self.inside in
    let es = i.cache.entries in
    let k = c.in-Some.ends in
    let v = c.in-Some-peek_mut.first.now in
    let call : IsCall es k v = is_call es i.limits c.args.self.now k c.first_ends.result v c.self.view_is c.in-Some.is c.first_ends.ensures c.in-Some-peek_mut.ensures.value in
    let less = call_less es k v i.early call c.self.invariant.1 in
    omega (arith, less)

pub size-after-requires : goal.size-after-requires
size-after-requires g c =
    let i = c.self.inside in
    let es = i.cache.entries in
    let k = c.in-Some.ends in
    let v = c.in-Some-peek_mut.first.now in
    let call : IsCall es k v = is_call es i.limits c.args.self.now k c.first_ends.result v c.self.view_is c.in-Some.is c.first_ends.ensures c.in-Some-peek_mut.ensures.value in
    let less = call_less es k v i.early call c.self.invariant.1 in
    let most = c.self.invariant.2 in
    let sized = subst (λ x. size_of x ≤ size_of v) (sym c.pass_held.ensures) (passed_size c.args.way v) in
    omega (arith, less, most, sized)

pub overflow_sub-self : goal.overflow_sub-self
overflow_sub-self g c =
    let i = c.self.inside in
    let es = i.cache.entries in
    let k = c.in-Some.ends in
    let v = c.in-Some-peek_mut.first.now in
    let call : IsCall es k v = is_call es i.limits c.args.self.now k c.first_ends.result v c.self.view_is c.in-Some.is c.first_ends.ensures c.in-Some-peek_mut.ensures.value in
    let less = call_less es k v i.early call c.self.invariant.1 in
    let before = c.size-before.ensures in
    omega (arith, less, before)

pub overflow_add-self : goal.overflow_add-self
overflow_add-self g c =
    let i = c.self.inside in
    let es = i.cache.entries in
    let k = c.in-Some.ends in
    let v = c.in-Some-peek_mut.first.now in
    let call : IsCall es k v = is_call es i.limits c.args.self.now k c.first_ends.result v c.self.view_is c.in-Some.is c.first_ends.ensures c.in-Some-peek_mut.ensures.value in
    let less = call_less es k v i.early call c.self.invariant.1 in
    let most = c.self.invariant.2 in
    let before = c.size-before.ensures in
    let after = c.size-after.ensures in
    let sized = subst (λ x. size_of x ≤ size_of v) (sym c.pass_held.ensures) (passed_size c.args.way v) in
    omega (arith, less, most, before, after, sized)

pub invariant_of-self-2 : goal.invariant_of-self-2
invariant_of-self-2 g c =
    let i = c.self.inside in
    let es = i.cache.entries in
    let k = c.in-Some.ends in
    let v = c.in-Some-peek_mut.first.now in
    let call : IsCall es k v = is_call es i.limits c.args.self.now k c.first_ends.result v c.self.view_is c.in-Some.is c.first_ends.ensures c.in-Some-peek_mut.ensures.value in
    let inv = c.self.invariant in
    let most = inv.2 in
    let less = call_less es k v i.early call inv.1 in
    let before = c.size-before.ensures in
    let after = c.size-after.ensures in
    let sized = subst (λ x. size_of x ≤ size_of v) (sym c.pass_held.ensures) (passed_size c.args.way v) in
    (inv.0, call_sum es k v _ i.early c.size-before.result c.size-after.result call inv.1 before after, omega (arith, less, most, before, after, sized))

pub returns : goal.returns
returns g c =
    let i = c.self.inside in
    let es = i.cache.entries in
    let k = c.in-Some.ends in
    let v = c.in-Some-peek_mut.first.now in
    let call : IsCall es k v = is_call es i.limits c.args.self.now k c.first_ends.result v c.self.view_is c.in-Some.is c.first_ends.ensures c.in-Some-peek_mut.ensures.value in
    let w = c.pass_held.new.self in
    subst (λ (p : PoolState). pool i.limits (known_of (set_value (eq_ends k) es w)) ≡ with_known (first_becomes (passed c.args.way) p.known) p) c.self.view_is
    (ap (λ ks. pool i.limits ks) (call_becomes (passed c.args.way) es k v w call c.pass_held.ensures))
