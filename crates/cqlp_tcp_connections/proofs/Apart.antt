-- Two answers are the same, and connections are apart.
use Rattle.std.proofs.Common.{◌≡◌, ℕ, suc, ◌≤◌, ◌⊎◌, inl, inr, Bool, true, false, cond, List, [], ◌∷◌, length, drop, refl, sym, ap, subst, ◌∙◌, arith}
use Rattle.std.specs.Prelude.{Option, Some, None, nat_lt}
use Rattle.cqlp_tcp_segment.specs.declared.segments.SegmentHead.{SegmentHead}
use Rattle.cqlp_tcp_segment.specs.Segment.{Seen}
use Rattle.cqlp_tcp_connections.specs.declared.ends.Way.{Way}
use Rattle.cqlp_tcp_connections.specs.declared.ends.Way.TheVariants.{Requests, Responses}
use Rattle.cqlp_tcp_connections.specs.declared.delivery.Delivery.{Delivery}
use Rattle.cqlp_tcp_connections.specs.Ends.{ends_of, first_way, other}
use Rattle.cqlp_tcp_connections.specs.Totals.{counted}
use Rattle.cqlp_tcp_connections.specs.Known as one
use Rattle.cqlp_tcp_connections.specs.Known.{Flows, Known, Delivering, begins_anew, closed, counted_on, known, new_flows}
use Rattle.cqlp_tcp_connections.specs.Tables.{Departing, Pulling, Table, Taking, begun, between, crowded, crowded_by, first_becomes, first_delivers, found_in, left_by, left_in, pulled_on, room_in, seen_in, taken_by, taken_in, taken_turned, to_front, way_of_first, with_known}
use Rattle.cqlp_tcp_connections.specs.Laws.{ChangesNoStream, Keeps, LeavesTheOthers, OneAnswerOfNew, OthersStay, pair_of, pairs}
use Rattle.cqlp_tcp_connections.specs.Laws.Keeps.{same, front, begun as begun_by}

pub one_new : OneAnswerOfNew
one_new limits ports t u p q = q ∙ sym p

-- ---- `take`

counted_pair : (way : Way) (k : Known) → pair_of (known k.ends (counted_on way k.flows)) ≡ pair_of k
counted_pair Requests k = refl
counted_pair Responses k = refl

keeps_if : (b : Bool) (t : Table) (x y : Taking) → Keeps t x.after → Keeps t y.after → Keeps t (cond b x y).after
keeps_if true t x y p q = p
keeps_if false t x y p q = q

keeps_seen : (way : Way) (h : SegmentHead) (t : Table) (at : ℕ) (ks : List Known) → pairs ks ≡ pairs (to_front at t.known) → Keeps t (seen_in way h ks (with_known ks t)).after
keeps_seen way h t at [] e = front at e
keeps_seen way h t at (k ∷ ks) e =
    keeps_if (begins_anew way h k.flows) t _ _ (front at e) (front at (ap (λ p. p ∷ pairs ks) (counted_pair way k) ∙ e))

keeps_crowd : (t : Table) (at : ℕ) (ks : List Known) → pairs ks ≡ pairs (to_front at t.known) → Keeps t (crowded_by ks t).after
keeps_crowd t at [] e = same refl
keeps_crowd t at (k ∷ ks) e = front at e

keeps_turned : (o : Option ℕ) (way : Way) (h : SegmentHead) (t : Table) → Keeps t (taken_turned o way h t).after
keeps_turned (Some at) way h t = keeps_seen (other way) h t at (to_front at t.known) refl
keeps_turned None way h t =
    keeps_if
    (nat_lt (length t.known) t.limits.connections)
    t
    (begun way h t)
    (crowded t)
    (begun_by (ap (λ p. p ∷ pairs t.known) (counted_pair way (known (ends_of way h) (new_flows (counted t.counts.connections 1))))))
    (keeps_crowd t _ (to_front _ t.known) refl)

keeps_in : (o : Option ℕ) (way : Way) (h : SegmentHead) (t : Table) → Keeps t (taken_in o way h t).after
keeps_in (Some at) way h t = keeps_seen way h t at (to_front at t.known) refl
keeps_in None way h t = keeps_turned (found_in (ends_of (other way) h) t.known) way h t

keeps_by : (o : Option Way) (h : SegmentHead) (t : Table) → Keeps t (taken_by o h t).after
keeps_by None h t = same refl
keeps_by (Some way) h t = keeps_in (found_in (ends_of way h) t.known) way h t

pub changes_none : ChangesNoStream
changes_none h s old new e =
    subst (λ (z : Taking). Keeps old z.after) (sym e) (keeps_by (first_way old.ports h) h old)

-- ---- the calls that deliver

delivers : (f : Flows → Delivering) (ks : List Known) → (drop 1 (first_delivers f ks).after ≡ drop 1 ks) × (length ks ≤ length (first_delivers f ks).after)
delivers f [] = (refl, omega arith)
delivers f (k ∷ ks) = (refl, omega arith)

becomes : (f : Flows → Flows) (ks : List Known) → (drop 1 (first_becomes f ks) ≡ drop 1 ks) × (length ks ≤ length (first_becomes f ks))
becomes f [] = (refl, omega arith)
becomes f (k ∷ ks) = (refl, omega arith)

pulls : (o : Option Way) (g : Seen) (time : Option ℕ) (t : Table) → OthersStay t (pulled_on o g time t).after
pulls None g time t = (refl, omega arith)
pulls (Some way) g time t = delivers (one.pulled way g time (room_in t.limits t.known)) t.known

leaves_by : (o : Option Delivery) (k : Known) (ks : List Known) (t : Table)
    → ((drop 1 (left_by o k ks t).after.known ≡ ks) × (suc (length ks) ≤ length (left_by o k ks t).after.known)) ⊎ ((left_by o k ks t).after.known ≡ ks)
leaves_by (Some delivered) k ks t = inl (refl, omega arith)
leaves_by None k ks t = inr refl

leaves : (t : Table) (ks : List Known) → t.known ≡ ks → ((drop 1 (left_in ks t).after.known ≡ drop 1 ks) × (length ks ≤ length (left_in ks t).after.known)) ⊎ ((left_in ks t).after.known ≡ drop 1 ks)
leaves t [] e = inl (ap (λ (x : List Known). drop 1 x) e, omega arith)
leaves t (k ∷ ks) e = leaves_by (between k.ends (closed k.flows).delivered) (known k.ends (closed k.flows).after) ks t

pub leaves_others : LeavesTheOthers
leaves_others = (
  (λ g time delivered old new e. subst (λ (z : Pulling). OthersStay old z.after) (sym e) (pulls (way_of_first g.head old.known) g time old)),
  (λ way old new e. subst (λ (z : Table). OthersStay old z) (sym e) (becomes (one.passed way) old.known)),
  (λ d old new e. subst (λ (z : Departing). OthersStay old z.after ⊎ (z.after.known ≡ drop 1 old.known)) (sym e) (leaves old old.known refl)),
)
