-- Packets that come to a window and leave it.
use Rattle.std.proofs.Common.{◌≡◌, ◌∙◌, ℕ, ◌<◌, Bool, true, false, cond, List, [], ◌∷◌, ◌++◌, length, Option, Some, None, Result, Ok, refl, sym, ap, subst, inr, ◌⊎◌, append_assoc, append-nil, arith}
use Rattle.cqlp_packet_order.specs.Packets as kept
use Rattle.cqlp_packet_order.specs.Orders.{Order, Release, arrived, due_left, first_left, passes, releasing, with_passed}
use Rattle.cqlp_packet_order.proofs.Windows.{none_is_due, one_fewer, passing}
use Rattle.cqlp_tcp_segment.specs.declared.reason.NoSegment.{NoSegment}
use Rattle.cqlp_tcp_segment.specs.Segment.{Seen}
use Rattle.cqlp_tcp_connections.specs.Tables.{Table}
use Rattle.cqlp_capture_streams.specs.declared.packets.PacketCounts.{PacketCounts}
use Rattle.cqlp_capture_streams.specs.ConnectionEvents.{ConnectionEvent}
use Rattle.cqlp_capture_streams.specs.Reportings.{FinishesAll, ReportsTimed}
use Rattle.cqlp_capture_streams.specs.Packets.{Finishes, Hands, HandsAll, HandsEach, SplitState, ReportsArrived, ReportsCome, ReportsPacket, ReportsRead, is_snapped, packet_begun, segment_in, split_state, with_order, with_segment, with_table}

-- one packet more
pub each_more : (leaves : Order → Release) (s m u : SplitState) (ps : List kept.Packet) (p : kept.Packet) (ss ts : List ConnectionEvent) → HandsEach leaves s ps ss m → Hands leaves true m p ts u → HandsEach leaves s (ps ++ p ∷ []) (ss ++ ts) u
each_more leaves s m u [] p ss ts (none, same) a =
    (u, ts, [], ap (λ z. z ++ ts) none ∙ sym (append-nil ts), subst (λ (z : SplitState). Hands leaves true z p ts u) same a, (refl, refl))
each_more leaves s m u (q ∷ qs) p ss ts (k, first, rest, parts, head, tail) a =
    (k, first, rest ++ ts, ap (λ z. z ++ ts) parts ∙ append_assoc first rest ts, head, each_more leaves k m u qs p rest ts tail a)

-- it has left, and reports what it does
pub has_left : (leaves : Order → Release) (all : Bool) (s u : SplitState) (t : Table) (o o' : Order) (link : ℕ) (time : Option ℕ) (original : ℕ) (counts : PacketCounts) (p q : kept.Packet) (ts : List ConnectionEvent) → split_state t o link time original counts ≡ s → releasing (Some p) o' ≡ leaves o → q ≡ p → ReportsPacket q all (split_state t o' link time original counts) ts u → Hands leaves all s p ts u
has_left leaves all s u t o o' link time original counts p q ts view left same a =
    let there = subst (λ (z : kept.Packet). ReportsPacket z all (split_state t o' link time original counts) ts u) same a in
    subst (λ (z : SplitState). Hands leaves all z p ts u) view (o', left, there)

-- one fewer waits
pub fewer_wait : (leaves : Order → Release) (s u : SplitState) (t : Table) (o o' : Order) (link : ℕ) (time : Option ℕ) (original : ℕ) (counts : PacketCounts) (p : kept.Packet) → ((z : Order) → leaves z ≡ first_left z ⊎ leaves z ≡ releasing None z) → split_state t o link time original counts ≡ s → releasing (Some p) o' ≡ leaves o → u.order ≡ o' → length u.order.waiting < length s.order.waiting
fewer_wait leaves s u t o o' link time original counts p ways view left same =
    let few = one_fewer leaves o o' p ways left in
    let before = ap (λ (z : SplitState). length z.order.waiting) view in
    let after = ap (λ (z : Order). length z.waiting) same in
    omega (arith, few, before, after)

-- ---- a packet with a segment

-- It is counted, and reports what the segment does.
pub segment_read : (all : Bool) (s : SplitState) (t t' : Table) (o : Order) (link : ℕ) (time : Option ℕ) (original : ℕ) (counts counts' : PacketCounts) (p : kept.Packet) (g : Seen) (snapped : Bool) (ss : List ConnectionEvent) → split_state t o link time original counts ≡ s → segment_in p ≡ Ok g → snapped ≡ is_snapped s.table g → counts' ≡ with_segment snapped counts → ReportsTimed all p.time g t ss t' → ReportsPacket p all s ss (split_state t' o link time original counts')
segment_read all s t t' o link time original counts counts' p g snapped ss view is cut counts_is a =
    let there = subst (λ (z : SplitState). ReportsTimed all p.time g z.table ss t') view a in
    let one = ap (λ (z : PacketCounts). split_state t' o link time original z) (counts_is ∙ ap (λ (b : Bool). with_segment b counts) cut) in
    let two = ap (λ (z : SplitState). split_state t' z.order z.link z.time z.original (with_segment (is_snapped s.table g) z.counts)) view in
    subst (λ (z : Result Seen NoSegment). ReportsRead z p.time all s ss (split_state t' o link time original counts')) (sym is) (there, one ∙ two)

-- ---- a packet comes

-- memory for it was there
pub has_come : (all : Bool) (s u : SplitState) (p : kept.Packet) (ss : List ConnectionEvent) → ReportsArrived all s p ss u → ReportsCome all s p ss u
has_come true s u p ss a = a
has_come false s u p ss a = inr a

-- it passes as it is
pub passes_on : (all : Bool) (s u : SplitState) (p : kept.Packet) (ss : List ConnectionEvent) → passes p s.order ≡ true → u.order ≡ with_passed p s.order → ReportsPacket p all (with_order (with_passed p s.order) s) ss u → ReportsCome all s p ss u
passes_on true s u p ss pass is a = (
  p ∷ [],
  (u, ss, [], sym (append-nil ss), (with_passed p s.order, sym (passing p s.order pass), a), (refl, refl)),
  subst (λ (z : Order). releasing None z ≡ due_left z) (sym is) (none_is_due p s.order pass),
)
passes_on false s u p ss pass is a =
    inr ([], p, with_order (arrived p s.order) s, [], ss, refl, (refl, refl), (with_passed p s.order, sym (passing p s.order pass), a))

pub passed_over : (all : Bool) (s u : SplitState) (t : Table) (o o' : Order) (link : ℕ) (time : Option ℕ) (original : ℕ) (counts : PacketCounts) (bytes : List ℕ) (ss : List ConnectionEvent) (b : Bool) → split_state t o link time original counts ≡ s → b ≡ true → b ≡ passes (kept.packet link time original bytes) o → o' ≡ cond b (with_passed (kept.packet link time original bytes) o) o → u.order ≡ o' → ReportsPacket (kept.packet link time original bytes) all (split_state t o' link time original counts) ss u → ReportsCome all s (packet_begun s bytes) ss u
passed_over all s u t o o' link time original counts bytes ss b view is value new same a =
    let p = kept.packet link time original bytes in
    let pass : passes p o ≡ true = sym value ∙ is in
    let after : o' ≡ with_passed p o = new ∙ ap (λ (z : Bool). cond z (with_passed p o) o) is in
    let there = subst (λ (z : Order). ReportsPacket p all (split_state t z link time original counts) ss u) after a in
    subst (λ (z : SplitState). ReportsCome all z (packet_begun z bytes) ss u) view (passes_on all (split_state t o link time original counts) u p ss pass (same ∙ after) there)

-- ---- the end

finished_after : (all : Bool) (s m u : SplitState) (front last : List ConnectionEvent) → HandsAll first_left true s front m → FinishesAll all m.table last u.table → u ≡ with_table u.table m → Finishes all s (front ++ last) u
finished_after true s m u front last a b is = (m, front, last, refl, a, b, is)
finished_after false s m u front last a b is = inr (m, front, last, refl, a, b, is)

-- the connections leave where all packets have
pub finished_at : (all : Bool) (s m : SplitState) (t t' : Table) (o : Order) (link : ℕ) (time : Option ℕ) (original : ℕ) (counts : PacketCounts) (front last : List ConnectionEvent) → split_state t o link time original counts ≡ m → HandsAll first_left true s front m → FinishesAll all t last t' → Finishes all s (front ++ last) (split_state t' o link time original counts)
finished_at all s m t t' o link time original counts front last view a b =
    let there = subst (λ (z : SplitState). FinishesAll all z.table last t') view b in
    let same = ap (λ (z : SplitState). with_table t' z) view in
    finished_after all s m (split_state t' o link time original counts) front last a there same
