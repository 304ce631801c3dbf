-- One connection.
use Rattle.std.specs.Prelude.{ℕ, ◌+◌, ◌%◌, ◌^◌, ◌==◌, ◌&&◌, Bool, true, false, not, Option, Some, None, if◌then◌else◌, ⊤}
use Rattle.cqlp_tcp_segment.specs.declared.segments.SegmentHead.{SegmentHead}
use Rattle.cqlp_tcp_segment.specs.Segment.{Seen}
use Rattle.cqlp_tcp_reassembly.specs.declared.segment.Control.{Control}
use Rattle.cqlp_tcp_reassembly.specs.declared.step.StreamStep.{StreamStep}
use Rattle.cqlp_tcp_reassembly.specs.declared.step.StreamStep.TheVariants as step
use Rattle.cqlp_tcp_reassembly.specs.Segments.{Segment}
use Rattle.cqlp_tcp_reassembly.specs.Streams.{IsWithin}
use Rattle.cqlp_tcp_connections.specs.declared.ends.Ends.{Ends}
use Rattle.cqlp_tcp_connections.specs.declared.ends.Way.{Way}
use Rattle.cqlp_tcp_connections.specs.declared.ends.Way.TheVariants.{Requests, Responses}
use Rattle.cqlp_tcp_connections.specs.declared.side.SideStep.{SideStep}
use Rattle.cqlp_tcp_connections.specs.declared.delivery.Admission.{Admission}
use Rattle.cqlp_tcp_connections.specs.declared.delivery.Admission.TheVariants.{Taken, Crowded}
use Rattle.cqlp_tcp_connections.specs.declared.delivery.WayStep.{WayStep}
use Rattle.cqlp_tcp_connections.specs.declared.totals.Begin.{Begin}
use Rattle.cqlp_tcp_connections.specs.declared.totals.Begin.TheVariants as begin
use Rattle.cqlp_tcp_connections.specs.declared.totals.End.{End}
use Rattle.cqlp_tcp_connections.specs.declared.totals.End.TheVariants as end
use Rattle.cqlp_tcp_connections.specs.declared.totals.ConnectionTotals.{ConnectionTotals}
use Rattle.cqlp_tcp_connections.specs.declared.totals.DirectionTotals.{DirectionTotals}
use Rattle.cqlp_tcp_connections.specs.Ends.{other}
use Rattle.cqlp_tcp_connections.specs.Totals.{one_more}
use Rattle.cqlp_tcp_connections.specs.Sides as sides
use Rattle.cqlp_tcp_connections.specs.Sides.{SideState, SideDelivery, side}

-- its number, and both directions
pub record Flows : Type 0 where
  pub number : ℕ
  pub requests : SideState
  pub responses : SideState

abbrev pub flows : ℕ → (requests responses : SideState) → Flows
flows n requests responses = record { number = n; requests = requests; responses = responses }

-- a connection in the table
pub record Known : Type 0 where
  pub ends : Ends
  pub flows : Flows

abbrev pub known : Ends → Flows → Known
known e f = record { ends = e; flows = f }

-- It delivered nothing.
abbrev pub new_flows : ℕ → Flows
new_flows n = flows n sides.new_side sides.new_side

-- how much both directions hold of what came early
abbrev pub size_of : Flows → ℕ
size_of f = sides.size_of f.requests + sides.size_of f.responses

abbrev pub side_of : Way → Flows → SideState
side_of Requests k = k.requests
side_of Responses k = k.responses

abbrev pub with_side : Way → SideState → Flows → Flows
with_side Requests s k = record k { requests = s }
with_side Responses s k = record k { responses = s }

abbrev pub totals_of : Known → ConnectionTotals
totals_of k = record {
  number = k.flows.number;
  client = k.ends.client;
  node = k.ends.node;
  requests = k.flows.requests.totals;
  responses = k.flows.responses.totals;
}

abbrev pub counted_on : Way → Flows → Flows
counted_on way k = with_side way (side (side_of way k).stream (one_more (side_of way k).totals)) k

-- ---- a SYN between the same ends (RFC 9293, section 3.5)

abbrev pub is_open : End → Bool
is_open end.Open = true
is_open end.Fin = false
is_open end.Reset = false

abbrev pub is_middle : Begin → Bool
is_middle begin.Unseen = false
is_middle (begin.Syn n) = false
is_middle (begin.Middle n) = true

-- It is of a direction that began with it, or with the number after it; or of one that has not begun, where neither has ended
-- and the other did not begin from the middle.
abbrev pub may_begin_as : Begin → (own other : DirectionTotals) → (sequence : ℕ) → Bool
may_begin_as (begin.Syn n) own other sequence = n == sequence
may_begin_as (begin.Middle n) own other sequence = n == (sequence + 1) % 2 ^ 32
may_begin_as begin.Unseen own other sequence = (is_open own.end && is_open other.end) && not (is_middle other.begin)

abbrev pub may_begin : (own other : DirectionTotals) → (sequence : ℕ) → Bool
may_begin own other sequence = may_begin_as own.begin own other sequence

abbrev pub begins_anew : Way → SegmentHead → Flows → Bool
begins_anew way h k =
    h.flags.syn && not (may_begin (side_of way k).totals (side_of (other way) k).totals h.sequence)

-- what a segment that goes this way is to it, and the connection after it
pub record Meeting : Type 0 where
  pub admission : Admission
  pub after : Flows

abbrev pub meeting : Admission → Flows → Meeting
meeting a k = record { admission = a; after = k }

-- It is counted, unless it begins another connection.
abbrev pub met_if : (is_other : Bool) → Way → Flows → Meeting
met_if true way k = meeting (Crowded k.number false) k
met_if false way k = meeting (Taken k.number way false) (counted_on way k)

abbrev pub met : Way → SegmentHead → Flows → Meeting
met way h k = met_if (begins_anew way h k) way k

-- ---- what is delivered of it

-- what is delivered, and the connection after it
pub record Delivering : Type 0 where
  pub delivered : Option WayStep
  pub after : Flows

abbrev pub delivering : Option WayStep → Flows → Delivering
delivering t k = record { delivered = t; after = k }

abbrev pub is_done : StreamStep → Bool
is_done (step.Began syn) = false
is_done (step.Payload from count) = false
is_done (step.Held time begins) = false
is_done (step.Gap n cause time) = false
is_done step.Kept = false
is_done step.Ended = false
is_done step.Reset = false
is_done step.Done = true

abbrev pub deliver : (number : ℕ) → Way → SideStep → Option WayStep
deliver n way s = if is_done s.step then None else Some (record { number = n; way = way; at = s.at; step = s.step })

abbrev pub delivered_of : Way → SideDelivery → Flows → Delivering
delivered_of way t k = delivering (deliver k.number way t.what) (with_side way t.after k)

-- if nothing is delivered, what comes next is
abbrev pub or_next_as : Option WayStep → Delivering → (Flows → Delivering) → Delivering
or_next_as None t next = next t.after
or_next_as (Some delivered) t next = t

abbrev pub or_next : Delivering → (Flows → Delivering) → Delivering
or_next t next = or_next_as t.delivered t next

-- the bytes that it names lie in a payload of this length
abbrev pub IsStepWithin : Option WayStep → (len : ℕ) → Type 0
IsStepWithin None len = ⊤
IsStepWithin (Some t) len = IsWithin t.step len

-- what the header says, with how many bytes of the payload were not captured (as numbers of a sequence, which wrap)
abbrev pub control_of : SegmentHead → (missing : ℕ) → Control
control_of h missing = record {
  sequence = h.sequence;
  syn = h.flags.syn;
  fin = h.flags.fin;
  rst = h.flags.rst;
  missing = missing % 2 ^ 32;
}

-- An acknowledgement delivers of the other way, and then the segment of its own, for which there is so much room.
abbrev pub acknowledged : Way → (number : ℕ) → Flows → Delivering
acknowledged way n f = delivered_of way (sides.acknowledged (side_of way f) n) f

abbrev pub answered : Way → SegmentHead → Flows → Delivering
answered way h f = if h.flags.ack then acknowledged (other way) h.acknowledgement f else delivering None f

abbrev pub taken : Way → Segment → (room : ℕ) → Flows → Delivering
taken way g room f = delivered_of way (sides.taken (side_of way f) g room) f

abbrev pub own_of : Seen → (time : Option ℕ) → Segment
own_of g time = record { control = control_of g.head g.missing; bytes = g.payload; time = time }

abbrev pub pulled : Way → Seen → (time : Option ℕ) → (room : ℕ) → Flows → Delivering
pulled way g time room f = or_next (answered way g.head f) (λ c. taken way (own_of g time) room c)

-- Where memory is refused nothing is delivered, and no more of its own way changes than that FIN is noted.
abbrev pub refused : Way → Segment → Flows → Flows
refused way g f = with_side way (sides.refused (side_of way f) g) f

abbrev pub pull_refused : Way → Seen → (time : Option ℕ) → Flows → Flows
pull_refused way g time f = refused way (own_of g time) (answered way g.head f).after

-- Where no more segments come: first of the requests.
abbrev pub closed_way : Way → Flows → Delivering
closed_way way f = delivered_of way (sides.closed (side_of way f)) f

abbrev pub closed : Flows → Delivering
closed f = or_next (closed_way Requests f) (λ c. closed_way Responses c)

-- Bytes of this way that came early are passed.
abbrev pub passed : Way → Flows → Flows
passed way f = with_side way (sides.passed (side_of way f)) f
