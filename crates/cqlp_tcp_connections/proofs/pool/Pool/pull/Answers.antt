use Rattle.std.proofs.Common.{◌≡◌, ap, subst, sym, ◌∙◌, arith}
use Rattle.std.specs.Map.{set_value}
use Rattle.cqlp_tcp_connections.specs.Tables.{between, first_becomes, first_delivering, first_delivers, room_in}
use Rattle.cqlp_tcp_connections.specs.Pools.{PoolState, known_of}
use Rattle.cqlp_tcp_connections.proofs.Entries.{IsCall, call_less, call_sum, eq_ends, is_call, no_call}
use Rattle.cqlp_tcp_segment.specs.Segment.{seen}
use Rattle.cqlp_tcp_connections.specs.Known.{pull_refused, pulled, delivering}
use Rattle.cqlp_tcp_connections.proofs.Sizes.{pull_sized}
use Rattle.cqlp_tcp_connections.proofs.Entries.{call_becomes, call_delivers, on_err}
use Rattle.cqlp_tcp_connections.proofs.pool.Pool.pull.Goals as goal

pub returns-in_default-peek_mut-clause-delivered : goal.returns-in_default-peek_mut-clause-delivered
returns-in_default-peek_mut-clause-delivered g c =
    no_call c.self.inside.cache.entries c.self.inside.limits c.args.self.now c.in-Some.ends c.first_ends.result c.self.view_is c.in-Some.is c.first_ends.ensures c.in_default-peek_mut.ensures.value

pub size-before-requires : goal.size-before-requires
size-before-requires g c =
    let i = c.self.inside in
    let es = i.cache.entries in
    let k = c.in-Some.ends in
    let v = c.in-Some-peek_mut.first.now in
    let call : IsCall es k v = is_call es i.limits c.args.self.now k c.first_ends.result v c.self.view_is c.in-Some.is c.first_ends.ensures c.in-Some-peek_mut.ensures.value in
    let less = call_less es k v i.early call c.self.invariant.1 in
    omega (arith, less)

pub size-after-requires : goal.size-after-requires
size-after-requires g c =
    let i = c.self.inside in
    let es = i.cache.entries in
    let k = c.in-Some.ends in
    let v = c.in-Some-peek_mut.first.now in
    let call : IsCall es k v = is_call es i.limits c.args.self.now k c.first_ends.result v c.self.view_is c.in-Some.is c.first_ends.ensures c.in-Some-peek_mut.ensures.value in
    let less = call_less es k v i.early call c.self.invariant.1 in
    let most = c.self.invariant.2 in
    let room : c.room-room.result ≡ room_in i.limits (known_of es) = c.room-room.ensures ∙ sym (ap (λ (p : PoolState). room_in p.limits p.known) c.self.view_is) in
    let sum = c.self.invariant.1 in
    let sized = pull_sized c.pull-stepped.result c.args.way (seen c.args.segment.now) c.args.time c.room-room.result v c.pull-stepped.new.self c.pull-stepped.ensures.delivered c.pull-stepped.ensures.refused in
    omega (arith, less, most, room, sum, sized)

pub overflow_sub-self : goal.overflow_sub-self
overflow_sub-self g c =
    let i = c.self.inside in
    let es = i.cache.entries in
    let k = c.in-Some.ends in
    let v = c.in-Some-peek_mut.first.now in
    let call : IsCall es k v = is_call es i.limits c.args.self.now k c.first_ends.result v c.self.view_is c.in-Some.is c.first_ends.ensures c.in-Some-peek_mut.ensures.value in
    let less = call_less es k v i.early call c.self.invariant.1 in
    let before = c.size-before.ensures in
    omega (arith, less, before)

pub overflow_add-self : goal.overflow_add-self
overflow_add-self g c =
    let i = c.self.inside in
    let es = i.cache.entries in
    let k = c.in-Some.ends in
    let v = c.in-Some-peek_mut.first.now in
    let call : IsCall es k v = is_call es i.limits c.args.self.now k c.first_ends.result v c.self.view_is c.in-Some.is c.first_ends.ensures c.in-Some-peek_mut.ensures.value in
    let less = call_less es k v i.early call c.self.invariant.1 in
    let most = c.self.invariant.2 in
    let before = c.size-before.ensures in
    let after = c.size-after.ensures in
    let room : c.room-room.result ≡ room_in i.limits (known_of es) = c.room-room.ensures ∙ sym (ap (λ (p : PoolState). room_in p.limits p.known) c.self.view_is) in
    let sum = c.self.invariant.1 in
    let sized = pull_sized c.pull-stepped.result c.args.way (seen c.args.segment.now) c.args.time c.room-room.result v c.pull-stepped.new.self c.pull-stepped.ensures.delivered c.pull-stepped.ensures.refused in
    omega (arith, less, most, before, after, room, sum, sized)

pub invariant_of-self-2 : goal.invariant_of-self-2
invariant_of-self-2 g c =
    let i = c.self.inside in
    let es = i.cache.entries in
    let k = c.in-Some.ends in
    let v = c.in-Some-peek_mut.first.now in
    let call : IsCall es k v = is_call es i.limits c.args.self.now k c.first_ends.result v c.self.view_is c.in-Some.is c.first_ends.ensures c.in-Some-peek_mut.ensures.value in
    let inv = c.self.invariant in
    let most = inv.2 in
    let less = call_less es k v i.early call inv.1 in
    let before = c.size-before.ensures in
    let after = c.size-after.ensures in
    let room : c.room-room.result ≡ room_in i.limits (known_of es) = c.room-room.ensures ∙ sym (ap (λ (p : PoolState). room_in p.limits p.known) c.self.view_is) in
    let sum = c.self.invariant.1 in
    let sized = pull_sized c.pull-stepped.result c.args.way (seen c.args.segment.now) c.args.time c.room-room.result v c.pull-stepped.new.self c.pull-stepped.ensures.delivered c.pull-stepped.ensures.refused in
    (inv.0, call_sum es k v _ i.early c.size-before.result c.size-after.result call inv.1 before after, omega (arith, less, most, before, after, room, sum, sized))

pub invariant_of-self-in_err-stepped : goal.invariant_of-self-in_err-stepped
invariant_of-self-in_err-stepped g c =
    let i = c.self.inside in
    let es = i.cache.entries in
    let k = c.in-Some.ends in
    let v = c.in-Some-peek_mut.first.now in
    let call : IsCall es k v = is_call es i.limits c.args.self.now k c.first_ends.result v c.self.view_is c.in-Some.is c.first_ends.ensures c.in-Some-peek_mut.ensures.value in
    let inv = c.self.invariant in
    let most = inv.2 in
    let less = call_less es k v i.early call inv.1 in
    let before = c.size-before.ensures in
    let after = c.size-after.ensures in
    let room : c.room-room.result ≡ room_in i.limits (known_of es) = c.room-room.ensures ∙ sym (ap (λ (p : PoolState). room_in p.limits p.known) c.self.view_is) in
    let sum = c.self.invariant.1 in
    let sized = pull_sized c.pull-stepped.result c.args.way (seen c.args.segment.now) c.args.time c.room-room.result v c.pull-stepped.new.self c.pull-stepped.ensures.delivered c.pull-stepped.ensures.refused in
    (inv.0, call_sum es k v _ i.early c.size-before.result c.size-after.result call inv.1 before after, omega (arith, less, most, before, after, room, sum, sized))

pub returns-clause-delivered : goal.returns-clause-delivered
returns-clause-delivered g c =
    let i = c.self.inside in
    let es = i.cache.entries in
    let k = c.in-Some.ends in
    let v = c.in-Some-peek_mut.first.now in
    let call : IsCall es k v = is_call es i.limits c.args.self.now k c.first_ends.result v c.self.view_is c.in-Some.is c.first_ends.ensures c.in-Some-peek_mut.ensures.value in
    let w = c.pull-stepped.new.self in
    let way = c.args.way in
    let s = seen c.args.segment.now in
    let time = c.args.time in
    let step = c.in_ok-stepped.field-0 in
    let room : c.room-room.result ≡ room_in i.limits (known_of es) = c.room-room.ensures ∙ sym (ap (λ (p : PoolState). room_in p.limits p.known) c.self.view_is) in
    ap (λ d. first_delivering d (known_of (set_value (eq_ends k) es w))) c.between.ensures
    ∙ subst (λ (p : PoolState). first_delivering (between k step) (known_of (set_value (eq_ends k) es w)) ≡ first_delivers (pulled way s time (room_in p.limits p.known)) p.known) c.self.view_is
    (call_delivers (pulled way s time (room_in i.limits (known_of es))) es k v w step call
    (subst (λ n. delivering step w ≡ pulled way s time n v) room c.in_ok-stepped.ensures.delivered))

pub returns-in_err-stepped-clause-refused : goal.returns-in_err-stepped-clause-refused
returns-in_err-stepped-clause-refused g c =
    let i = c.self.inside in
    let es = i.cache.entries in
    let k = c.in-Some.ends in
    let v = c.in-Some-peek_mut.first.now in
    let call : IsCall es k v = is_call es i.limits c.args.self.now k c.first_ends.result v c.self.view_is c.in-Some.is c.first_ends.ensures c.in-Some-peek_mut.ensures.value in
    let w = c.pull-stepped.new.self in
    let f = pull_refused c.args.way (seen c.args.segment.now) c.args.time in
    on_err c.from_residual.result (subst (λ (p : PoolState). known_of (set_value (eq_ends k) es w) ≡ first_becomes f p.known) c.self.view_is
    (call_becomes f es k v w call c.in_err-stepped.ensures.refused))
