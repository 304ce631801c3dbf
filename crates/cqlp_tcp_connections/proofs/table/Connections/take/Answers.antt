use Rattle.std.proofs.Common.{◌≡◌, ◌∙◌, ap, sym, Bool, false, nat_le, nat_lt, length, if◌then◌else◌}
use Rattle.cqlp_tcp_connections.specs.Ends.{first_way}
use Rattle.cqlp_tcp_connections.specs.declared.limits.ConnectionLimits.{ConnectionLimits}
use Rattle.cqlp_tcp_connections.specs.Tables.{Table, begun, crowded, table, taken, taking, with_known}
use Rattle.cqlp_tcp_connections.proofs.Firsts.{full_not, taken_absent, taken_turned_round}
use Rattle.cqlp_tcp_connections.proofs.table.Connections.take.Goals as goal

pub returns-in-Some-see-2-clause-taken : goal.returns-in-Some-see-2-clause-taken
returns-in-Some-see-2-clause-taken g c =
    let i = c.self.inside in
    let t : Table = table i.pool.limits i.ports.items i.pool.known i.counts i.foreign i.leaving in
    let h = c.args.head.now in
    let a = c.in-Some-see-2.admission in
    let first = sym (c.in-Some.ensures ∙ ap (λ p. first_way p h) c.deref.ensures.value) in
    ap (λ n. taking a (table n i.ports.items c.see-2.new.self.known i.counts i.foreign i.leaving)) (c.in-Some-see-2.ensures.limits ∙ c.in_default-see.ensures.limits)
    ∙ taken_turned_round c.in-Some.way c.other-turned.result h c.ends_of.result c.ends_of-2.result c.see.new.self.known t first c.ends_of.ensures c.other-turned.ensures c.ends_of-2.ensures c.in_default-see.ensures.seen a c.see-2.new.self.known c.in-Some-see-2.ensures.seen
    ∙ ap (λ (x : Table). taken x h) c.self.view_is

pub returns-then-is_full-clause-taken : goal.returns-then-is_full-clause-taken
returns-then-is_full-clause-taken g c =
    let i = c.self.inside in
    let t : Table = table i.pool.limits i.ports.items i.pool.known i.counts i.foreign i.leaving in
    let h = c.args.head.now in
    let way = c.in-Some.way in
    let ks = c.see-2.new.self.known in
    let first = sym (c.in-Some.ensures ∙ ap (λ p. first_way p h) c.deref.ensures.value) in
    let limits = c.in_default-see-2.ensures.limits ∙ c.in_default-see.ensures.limits in
    let full : nat_lt (length ks) t.limits.connections ≡ false =
    full_not (length ks) t.limits.connections (c.if-is_full.ensures ∙ ap (λ (n : ConnectionLimits). nat_le n.connections (length ks)) limits) in
    c.crowd.ensures
    ∙ ap (λ n. crowded (table n i.ports.items ks i.counts i.foreign i.leaving)) limits
    ∙ sym (ap (λ (b : Bool). if b then begun way h (with_known ks t) else crowded (with_known ks t)) full)
    ∙ sym (taken_absent way c.other-turned.result h c.ends_of.result c.ends_of-2.result c.see.new.self.known t first c.ends_of.ensures c.other-turned.ensures c.ends_of-2.ensures c.in_default-see.ensures.seen ks c.in_default-see-2.ensures.seen)
    ∙ ap (λ (x : Table). taken x h) c.self.view_is
