-- The table of connections.
use Rattle.std.specs.Prelude.{ℕ, ◌+◌, ◌-◌, ◌&&◌, Bool, true, false, List, [], ◌∷◌, ◌++◌, length, take, drop, min, nat_lt}
use Rattle.std.specs.List.{position, remove}
use Rattle.std.specs.Prelude.{Option, Some, None, if◌then◌else◌, ⊤}
use Rattle.cqlp_tcp_segment.specs.declared.segments.SegmentHead.{SegmentHead}
use Rattle.cqlp_tcp_segment.specs.Segment.{Seen}
use Rattle.cqlp_tcp_reassembly.specs.declared.step.GapCause.TheVariants.{Lost, Snapped}
use Rattle.cqlp_tcp_reassembly.specs.declared.step.StreamStep.{StreamStep}
use Rattle.cqlp_tcp_reassembly.specs.declared.step.StreamStep.TheVariants as step
use Rattle.cqlp_tcp_reassembly.specs.Streams as streams
use Rattle.cqlp_tcp_connections.specs.declared.ends.Ends.{Ends}
use Rattle.cqlp_tcp_connections.specs.declared.ends.Way.{Way}
use Rattle.cqlp_tcp_connections.specs.declared.ends.Way.TheVariants.{Requests, Responses}
use Rattle.cqlp_tcp_connections.specs.declared.limits.ConnectionLimits.{ConnectionLimits}
use Rattle.cqlp_tcp_connections.specs.declared.delivery.Departure.{Departure}
use Rattle.cqlp_tcp_connections.specs.declared.delivery.Departure.TheVariants as departure
use Rattle.cqlp_tcp_connections.specs.declared.delivery.Admission.{Admission}
use Rattle.cqlp_tcp_connections.specs.declared.delivery.Admission.TheVariants.{Foreign, Taken, Crowded}
use Rattle.cqlp_tcp_connections.specs.declared.delivery.Delivery.{Delivery}
use Rattle.cqlp_tcp_connections.specs.declared.delivery.WayStep.{WayStep}
use Rattle.cqlp_tcp_connections.specs.declared.totals.ConnectionCounts.{ConnectionCounts}
use Rattle.cqlp_tcp_connections.specs.Ends.{ends_of, first_way, other, same_ends, way_between}
use Rattle.cqlp_tcp_connections.specs.Totals.{counted}
use Rattle.cqlp_tcp_connections.specs.Ports.{no_ports, passed_by}
use Rattle.cqlp_tcp_connections.specs.Known as one
use Rattle.cqlp_tcp_connections.specs.Known.{Flows, Known, Delivering, begins_anew, closed, counted_on, known, new_flows, side_of, size_of, totals_of}

-- the connections that are there, the one whose segment came last first; for each port how many segments went by that had it; and
-- whether the first connection has begun to leave
pub record Table : Type 0 where
  pub limits : ConnectionLimits
  pub ports : List ℕ
  pub known : List Known
  pub counts : ConnectionCounts
  pub foreign : List ℕ
  pub leaving : Bool

abbrev pub table : ConnectionLimits → List ℕ → List Known → ConnectionCounts → (foreign : List ℕ) → (leaving : Bool) → Table
table limits ports ks counts foreign leaving =
    record { limits = limits; ports = ports; known = ks; counts = counts; foreign = foreign; leaving = leaving }

abbrev pub with_known : List Known → Table → Table
with_known ks t = record t { known = ks }

abbrev pub new_table : ConnectionLimits → List ℕ → Table
new_table limits ports =
    table limits ports [] (record { connections = 0; crowded = 0; foreign = 0; given_up = 0 }) no_ports false

-- the one at this place first, and the others in their order
abbrev pub to_front : (at : ℕ) → List Known → List Known
to_front at ks = take 1 (drop at ks) ++ remove ks at

-- the last one first
abbrev pub last_first : List Known → List Known
last_first ks = to_front (length ks - 1) ks

-- ---- room for what comes early

-- how much all hold
abbrev pub early_of : List Known → ℕ
early_of [] = 0
early_of (k ∷ ks) = size_of k.flows + early_of ks

-- A direction may hold as much as is left for all, and no more than the limit of one.
abbrev pub room_in : ConnectionLimits → List Known → ℕ
room_in limits ks = min limits.early_each (limits.early - early_of ks)

-- ---- the first one, and the others after it

abbrev pub first_becomes : (Flows → Flows) → List Known → List Known
first_becomes f [] = []
first_becomes f (k ∷ ks) = known k.ends (f k.flows) ∷ ks

-- what is delivered of a connection between these ends
abbrev pub between : Ends → Option WayStep → Option Delivery
between e None = None
between e (Some s) = Some (record { number = s.number; ends = e; way = s.way; at = s.at; step = s.step })

-- the bytes that it names lie in a payload of this length
abbrev pub IsDeliveryWithin : Option Delivery → (len : ℕ) → Type 0
IsDeliveryWithin None len = ⊤
IsDeliveryWithin (Some t) len = streams.IsWithin t.step len

pub record FirstDelivering : Type 0 where
  pub delivered : Option Delivery
  pub after : List Known

abbrev pub first_delivering : Option Delivery → List Known → FirstDelivering
first_delivering delivered ks = record { delivered = delivered; after = ks }

abbrev pub first_delivers : (Flows → Delivering) → List Known → FirstDelivering
first_delivers f [] = first_delivering None []
first_delivers f (k ∷ ks) = first_delivering (between k.ends (f k.flows).delivered) (known k.ends (f k.flows).after ∷ ks)

-- ---- whose a segment is

pub record Taking : Type 0 where
  pub admission : Admission
  pub after : Table

abbrev pub taking : Admission → Table → Taking
taking s t = record { admission = s; after = t }

-- the place of the connection between these ends
abbrev pub found_in : Ends → List Known → Option ℕ
found_in e ks = position (λ (k : Known). same_ends e k.ends) ks

-- A segment of the first connection is counted there, unless it begins another one between the same ends.
abbrev pub seen_in : Way → SegmentHead → List Known → Table → Taking
seen_in way h [] t = taking Foreign t
seen_in way h (k ∷ ks) t =
    if begins_anew way h k.flows then taking (Crowded k.flows.number false) t
    else taking (Taken k.flows.number way false) (with_known (known k.ends (counted_on way k.flows) ∷ ks) t)

abbrev pub seen_first : Way → SegmentHead → Table → Taking
seen_first way h t = seen_in way h t.known t

-- A connection begins with a segment that goes this way, and is counted.
abbrev pub with_count : (number : ℕ) → Table → Table
with_count n t = record t { counts = record t.counts { connections = n } }

abbrev pub begun : Way → SegmentHead → Table → Taking
begun way h t =
    let n = counted t.counts.connections 1 in
    taking (Taken n way true) (with_count n (with_known (known (ends_of way h) (counted_on way (new_flows n)) ∷ t.known) t))

-- The last one, which was silent longest, has to leave.
abbrev pub with_crowd : Table → Table
with_crowd t = record t { counts = record t.counts { crowded = counted t.counts.crowded 1 } }

abbrev pub crowded_by : List Known → Table → Taking
crowded_by [] t = taking Foreign t
crowded_by (k ∷ ks) t = taking (Crowded k.flows.number true) (with_known (k ∷ ks) (with_crowd t))

abbrev pub crowded : Table → Taking
crowded t = crowded_by (last_first t.known) t

-- It is sought between the ends that the segment's ports name, and then the other way round.
abbrev pub brought : (at : ℕ) → Way → SegmentHead → Table → Taking
brought at way h t = seen_first way h (with_known (to_front at t.known) t)

abbrev pub taken_turned : Option ℕ → Way → SegmentHead → Table → Taking
taken_turned (Some at) way h t = brought at (other way) h t
taken_turned None way h t = if nat_lt (length t.known) t.limits.connections then begun way h t else crowded t

abbrev pub taken_in : Option ℕ → Way → SegmentHead → Table → Taking
taken_in (Some at) way h t = brought at way h t
taken_in None way h t = taken_turned (found_in (ends_of (other way) h) t.known) way h t

abbrev pub gone_by : SegmentHead → Table → Table
gone_by h t = record t { counts = record t.counts { foreign = counted t.counts.foreign 1 }; foreign = passed_by h t.foreign }

abbrev pub taken_by : Option Way → SegmentHead → Table → Taking
taken_by None h t = taking Foreign (gone_by h t)
taken_by (Some way) h t = taken_in (found_in (ends_of way h) t.known) way h t

abbrev pub taken : Table → SegmentHead → Taking
taken t h = taken_by (first_way t.ports h) h t

-- ---- what the first connection delivers

pub record Pulling : Type 0 where
  pub delivered : Option Delivery
  pub after : Table

abbrev pub pulling : Option Delivery → Table → Pulling
pulling delivered t = record { delivered = delivered; after = t }

-- A gap that a segment reports of its own way was declared since there was no room; one of the other way, by its acknowledgement.
abbrev pub is_lost : StreamStep → Bool
is_lost (step.Began syn) = false
is_lost (step.Payload from count) = false
is_lost (step.Held time begins) = false
is_lost (step.Gap n Lost time) = true
is_lost (step.Gap n Snapped time) = false
is_lost step.Kept = false
is_lost step.Ended = false
is_lost step.Reset = false
is_lost step.Done = false

abbrev pub is_way : Way → Way → Bool
is_way Requests Requests = true
is_way Requests Responses = false
is_way Responses Requests = false
is_way Responses Responses = true

abbrev pub gives_up : Way → Option Delivery → Bool
gives_up way None = false
gives_up way (Some t) = is_way way t.way && is_lost t.step

abbrev pub with_given_up : Bool → Table → Table
with_given_up b t = record t { counts = record t.counts { given_up = if b then counted t.counts.given_up 1 else t.counts.given_up } }

-- which way a segment goes, if it is of the first connection
abbrev pub way_of_first : SegmentHead → List Known → Option Way
way_of_first h [] = None
way_of_first h (k ∷ ks) = way_between k.ends h

abbrev pub pulled_on : Option Way → Seen → (time : Option ℕ) → Table → Pulling
pulled_on None g time t = pulling None t
pulled_on (Some way) g time t =
    let f = first_delivers (one.pulled way g time (room_in t.limits t.known)) t.known in
    pulling f.delivered (with_given_up (gives_up way f.delivered) (with_known f.after t))

abbrev pub pulled : Seen → (time : Option ℕ) → Table → Pulling
pulled g time t = pulled_on (way_of_first g.head t.known) g time t

-- where memory is refused
abbrev pub refused_on : Option Way → Seen → (time : Option ℕ) → Table → Table
refused_on None g time t = t
refused_on (Some way) g time t = with_known (first_becomes (one.pull_refused way g time) t.known) t

abbrev pub refused : Seen → (time : Option ℕ) → Table → Table
refused g time t = refused_on (way_of_first g.head t.known) g time t

-- the bytes of this way that came early and are next, and where they are passed
abbrev pub held_of : Way → List Known → List ℕ
held_of way [] = []
held_of way (k ∷ ks) = streams.held (side_of way k.flows).stream

abbrev pub passed : Way → Table → Table
passed way t = with_known (first_becomes (one.passed way) t.known) t

-- ---- how connections leave

pub record Departing : Type 0 where
  pub departure : Departure
  pub after : Table

abbrev pub departing : Departure → Table → Departing
departing d t = record { departure = d; after = t }

abbrev pub with_leaving : Bool → Table → Table
with_leaving b t = record t { leaving = b }

-- The first one delivers what it still has, and then it is not there any more.
abbrev pub left_by : Option Delivery → Known → List Known → Table → Departing
left_by (Some delivered) k ks t = departing (departure.Delivery delivered) (with_leaving true (with_known (k ∷ ks) t))
left_by None k ks t = departing (departure.Left (totals_of k)) (with_leaving false (with_known ks t))

abbrev pub left_as : Delivering → Ends → List Known → Table → Departing
left_as f e ks t = left_by (between e f.delivered) (known e f.after) ks t

abbrev pub left_in : List Known → Table → Departing
left_in [] t = departing departure.Empty t
left_in (k ∷ ks) t = left_as (closed k.flows) k.ends ks t

abbrev pub left : Table → Departing
left t = left_in t.known t

-- At the end of the file the last one leaves, which was silent longest, once the first has left if that has begun to.
abbrev pub finished : Table → Departing
finished t = left (if t.leaving then t else with_known (last_first t.known) t)
