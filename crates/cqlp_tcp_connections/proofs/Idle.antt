-- A segment of which all is behind reports nothing, and changes nothing.
use Rattle.std.proofs.Common.{◌≡◌, ℕ, List, refl, ap, ◌∙◌}
use Rattle.std.specs.Prelude.{Option, Some, None}
use Rattle.cqlp_tcp_segment.specs.Segment.{Seen}
use Rattle.cqlp_tcp_connections.specs.declared.ends.Ends.{Ends}
use Rattle.cqlp_tcp_connections.specs.declared.ends.Way.{Way}
use Rattle.cqlp_tcp_connections.specs.declared.ends.Way.TheVariants.{Requests, Responses}
use Rattle.cqlp_tcp_connections.specs.Sides.{IsIdle, SideDelivery}
use Rattle.cqlp_tcp_connections.specs.Known.{Flows, Known, Delivering, answered, or_next, own_of, pulled, side_of, taken, delivering, delivered_of}
use Rattle.cqlp_tcp_connections.specs.Tables.{Table, first_delivering, first_delivers, pulled_on, pulling, room_in}
use Rattle.cqlp_tcp_connections.proofs.Firsts.{FirstIs}

pub delivered_idle : (way : Way) (t : SideDelivery) (f : Flows) → IsIdle (side_of way f) t → delivered_of way t f ≡ delivering None f
delivered_idle Requests t f h = rw (h.0, h.1) refl
delivered_idle Responses t f h = rw (h.0, h.1) refl

pub pulled_idle : (way : Way) (g : Seen) (time : Option ℕ) (room : ℕ) (f : Flows) → taken way (own_of g time) room f ≡ delivering None f → answered way g.head f ≡ delivering None f → pulled way g time room f ≡ delivering None f
pulled_idle way g time room f own ack = ap (λ (t : Delivering). or_next t (λ c. taken way (own_of g time) room c)) ack ∙ own

pub first_idle : (F : Flows → Delivering) (ks : List Known) (e : Ends) (f : Flows) → FirstIs ks e f → F f ≡ delivering None f → first_delivers F ks ≡ first_delivering None ks
first_idle F ks e f so h = rw (so.is, h) refl

pub table_idle : (way : Way) (g : Seen) (time : Option ℕ) (t : Table) (o : Option Way) → o ≡ Some way → first_delivers (pulled way g time (room_in t.limits t.known)) t.known ≡ first_delivering None t.known → pulled_on o g time t ≡ pulling None t
table_idle way g time t o is h = rw (is, h) refl
