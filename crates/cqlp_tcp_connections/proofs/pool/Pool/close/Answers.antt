use Rattle.std.proofs.Common.{◌≡◌, ◌≤◌, ap, subst, sym, ◌∙◌, arith}
use Rattle.std.specs.Map.{set_value}
use Rattle.cqlp_tcp_connections.specs.Tables.{between, first_delivering, first_delivers}
use Rattle.cqlp_tcp_connections.specs.Pools.{PoolState, known_of}
use Rattle.cqlp_tcp_connections.proofs.Entries.{IsCall, call_less, call_sum, call_delivers, eq_ends, is_call, no_call}
use Rattle.cqlp_tcp_connections.specs.Known.{Delivering, closed, size_of}
use Rattle.cqlp_tcp_connections.proofs.Sizes.{closed_size}
use Rattle.cqlp_tcp_connections.proofs.pool.Pool.close.Goals as goal

pub size-before-requires : goal.size-before-requires
size-before-requires g c =
    let i = c.self.inside in
    let es = i.cache.entries in
    let k = c.in_ok-ends.ends in
    let v = c.in_ok-first.first.now in
    let call : IsCall es k v = is_call es i.limits c.args.self.now k c.first_ends.result v c.self.view_is c.in_ok-ends.was c.first_ends.ensures c.in_ok-first.ensures.value in
    let less = call_less es k v i.early call c.self.invariant.1 in
    omega (arith, less)

pub size-after-requires : goal.size-after-requires
size-after-requires g c =
    let i = c.self.inside in
    let es = i.cache.entries in
    let k = c.in_ok-ends.ends in
    let v = c.in_ok-first.first.now in
    let call : IsCall es k v = is_call es i.limits c.args.self.now k c.first_ends.result v c.self.view_is c.in_ok-ends.was c.first_ends.ensures c.in_ok-first.ensures.value in
    let less = call_less es k v i.early call c.self.invariant.1 in
    let most = c.self.invariant.2 in
    let sized = subst (λ (t : Delivering). size_of t.after ≤ size_of v) (sym c.close-step.ensures) (closed_size v) in
    omega (arith, less, most, sized)

pub overflow_sub-self : goal.overflow_sub-self
overflow_sub-self g c =
    let i = c.self.inside in
    let es = i.cache.entries in
    let k = c.in_ok-ends.ends in
    let v = c.in_ok-first.first.now in
    let call : IsCall es k v = is_call es i.limits c.args.self.now k c.first_ends.result v c.self.view_is c.in_ok-ends.was c.first_ends.ensures c.in_ok-first.ensures.value in
    let less = call_less es k v i.early call c.self.invariant.1 in
    let before = c.size-before.ensures in
    omega (arith, less, before)

pub overflow_add-self : goal.overflow_add-self
overflow_add-self g c =
    let i = c.self.inside in
    let es = i.cache.entries in
    let k = c.in_ok-ends.ends in
    let v = c.in_ok-first.first.now in
    let call : IsCall es k v = is_call es i.limits c.args.self.now k c.first_ends.result v c.self.view_is c.in_ok-ends.was c.first_ends.ensures c.in_ok-first.ensures.value in
    let less = call_less es k v i.early call c.self.invariant.1 in
    let most = c.self.invariant.2 in
    let before = c.size-before.ensures in
    let after = c.size-after.ensures in
    let sized = subst (λ (t : Delivering). size_of t.after ≤ size_of v) (sym c.close-step.ensures) (closed_size v) in
    omega (arith, less, most, before, after, sized)

pub invariant_of-self-2 : goal.invariant_of-self-2
invariant_of-self-2 g c =
    let i = c.self.inside in
    let es = i.cache.entries in
    let k = c.in_ok-ends.ends in
    let v = c.in_ok-first.first.now in
    let call : IsCall es k v = is_call es i.limits c.args.self.now k c.first_ends.result v c.self.view_is c.in_ok-ends.was c.first_ends.ensures c.in_ok-first.ensures.value in
    let inv = c.self.invariant in
    let most = inv.2 in
    let less = call_less es k v i.early call inv.1 in
    let before = c.size-before.ensures in
    let after = c.size-after.ensures in
    let sized = subst (λ (t : Delivering). size_of t.after ≤ size_of v) (sym c.close-step.ensures) (closed_size v) in
    (inv.0, call_sum es k v _ i.early c.size-before.result c.size-after.result call inv.1 before after, omega (arith, less, most, before, after, sized))

pub returns-clause-delivered : goal.returns-clause-delivered
returns-clause-delivered g c =
    let i = c.self.inside in
    let es = i.cache.entries in
    let k = c.in_ok-ends.ends in
    let v = c.in_ok-first.first.now in
    let call : IsCall es k v = is_call es i.limits c.args.self.now k c.first_ends.result v c.self.view_is c.in_ok-ends.was c.first_ends.ensures c.in_ok-first.ensures.value in
    let w = c.close-step.new.self in
    let step = c.close-step.result in
    ap (λ d. first_delivering d (known_of (set_value (eq_ends k) es w))) c.between.ensures
    ∙ subst (λ (p : PoolState). first_delivering (between k step) (known_of (set_value (eq_ends k) es w)) ≡ first_delivers closed p.known) c.self.view_is
    (call_delivers closed es k v w step call c.close-step.ensures)

pub returns-in_err-first-clause-delivered : goal.returns-in_err-first-clause-delivered
returns-in_err-first-clause-delivered g c =
    no_call c.self.inside.cache.entries c.self.inside.limits c.args.self.now c.in_ok-ends.ends c.first_ends.result c.self.view_is c.in_ok-ends.was c.first_ends.ensures c.in_err-first.ensures.value
