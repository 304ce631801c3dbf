-- What the packets of a capture report.
use Rattle.std.specs.Prelude.{◌≡◌, ℕ, Bool, true, false, ◌&&◌, nat_lt, is_some, if◌then◌else◌, List, [], ◌∷◌, ◌++◌, Option, Some, None, Result, Ok, Err, ◌⊎◌}
use Rattle.cqlp_capture.specs.declared.event.SkipReason.{SkipReason}
use Rattle.cqlp_capture.specs.declared.event.SkipReason.TheVariants as skip
use Rattle.cqlp_capture.specs.Reading.{Event, Section, Interface, Packet, Bytes, Skipped}
use Rattle.cqlp_tcp_segment.specs.declared.link.LinkType.{LinkType}
use Rattle.cqlp_tcp_segment.specs.declared.reason.NoSegment.{NoSegment}
use Rattle.cqlp_tcp_segment.specs.declared.reason.NoSegment.TheVariants as reason
use Rattle.cqlp_tcp_segment.specs.Link.{link_of}
use Rattle.cqlp_tcp_segment.specs.Segment.{Seen, segment_of}
use Rattle.cqlp_packet_order.specs.Packets as kept
use Rattle.cqlp_packet_order.specs.Packets.{packet}
use Rattle.cqlp_packet_order.specs.Orders.{Order, Release, arrived, due_left, first_left, releasing}
use Rattle.cqlp_tcp_connections.specs.Ends.{first_way}
use Rattle.cqlp_tcp_connections.specs.Ports.{busiest}
use Rattle.cqlp_tcp_connections.specs.Totals.{counted}
use Rattle.cqlp_tcp_connections.specs.Tables.{Table}
use Rattle.cqlp_capture_streams.specs.declared.packets.PacketCounts.{PacketCounts}
use Rattle.cqlp_capture_streams.specs.declared.packets.WithoutCounts.{WithoutCounts}
use Rattle.cqlp_capture_streams.specs.declared.skipped.SkippedCounts.{SkippedCounts}
use Rattle.cqlp_capture_streams.specs.ConnectionEvents.{ConnectionEvent}
use Rattle.cqlp_capture_streams.specs.Reportings.{FinishesAll, ReportsTimed}

-- the connections; the packets that wait; of the packet that began the number of the link type, when it was captured, and how many bytes
-- it had; and what packets were
pub record SplitState : Type 0 where
  pub table : Table
  pub order : Order
  pub link : ℕ
  pub time : Option ℕ
  pub original : ℕ
  pub counts : PacketCounts

abbrev pub split_state : Table → Order → (link : ℕ) → (time : Option ℕ) → (original : ℕ) → PacketCounts → SplitState
split_state t o link time original counts =
    record { table = t; order = o; link = link; time = time; original = original; counts = counts }

-- where no connection began, the three ports that most segments had, and how many; else 0 with 0
abbrev pub busiest_elsewhere : Table → List (ℕ × ℕ)
busiest_elsewhere t =
    if nat_lt 0 t.counts.connections then (0, 0) ∷ (0, 0) ∷ (0, 0) ∷ []
    else busiest t.foreign

abbrev pub none_without : WithoutCounts
none_without = record {
  unknown_link = 0;
  cut_in_link = 0;
  not_ip = 0;
  cut_in_ip = 0;
  bad_ip_length = 0;
  fragment = 0;
  not_tcp = 0;
  cut_in_tunnel = 0;
  too_many_tunnels = 0;
  cut_in_tcp = 0;
  bad_tcp_length = 0;
}

abbrev pub none_skipped : SkippedCounts
none_skipped = record {
  short_block = 0;
  bad_option_length = 0;
  unknown_time_unit = 0;
  negative_time_offset = 0;
  too_many_interfaces = 0;
  unknown_interface = 0;
  unread_interface = 0;
  time_too_large = 0;
  packet_beyond_block = 0;
  packet_too_long = 0;
}

abbrev pub none_counted : PacketCounts
none_counted =
    record { packets = 0; segments = 0; snapped = 0; without = none_without; skipped = none_skipped; more_files = 0; cut_files = 0 }

abbrev pub new_split : Table → Order → SplitState
new_split t o = split_state t o 0 None 0 none_counted

-- ---- what packets were

-- of a connection and cut, or not
abbrev pub with_segment : (is_snapped : Bool) → PacketCounts → PacketCounts
with_segment is_snapped c = record c {
  packets = counted c.packets 1;
  segments = counted c.segments 1;
  snapped = if is_snapped then counted c.snapped 1 else c.snapped;
}

-- a further file, behind one that was cut or not
abbrev pub with_file : (was_cut : Bool) → PacketCounts → PacketCounts
with_file was_cut c = record c {
  more_files = counted c.more_files 1;
  cut_files = if was_cut then counted c.cut_files 1 else c.cut_files;
}

-- one more for this reason
abbrev pub with_reason : NoSegment → WithoutCounts → WithoutCounts
with_reason reason.UnknownLink w = record w { unknown_link = counted w.unknown_link 1 }
with_reason reason.CutInLink w = record w { cut_in_link = counted w.cut_in_link 1 }
with_reason reason.NotIp w = record w { not_ip = counted w.not_ip 1 }
with_reason reason.CutInIp w = record w { cut_in_ip = counted w.cut_in_ip 1 }
with_reason reason.BadIpLength w = record w { bad_ip_length = counted w.bad_ip_length 1 }
with_reason reason.Fragment w = record w { fragment = counted w.fragment 1 }
with_reason reason.NotTcp w = record w { not_tcp = counted w.not_tcp 1 }
with_reason reason.CutInTunnel w = record w { cut_in_tunnel = counted w.cut_in_tunnel 1 }
with_reason reason.TooManyTunnels w = record w { too_many_tunnels = counted w.too_many_tunnels 1 }
with_reason reason.CutInTcp w = record w { cut_in_tcp = counted w.cut_in_tcp 1 }
with_reason reason.BadTcpLength w = record w { bad_tcp_length = counted w.bad_tcp_length 1 }

abbrev pub without_segment : NoSegment → PacketCounts → PacketCounts
without_segment why c = record c { packets = counted c.packets 1; without = with_reason why c.without }

-- What the reader of the capture passes over is counted by the reason too.
abbrev pub with_skip : SkipReason → SkippedCounts → SkippedCounts
with_skip skip.ShortBlock k = record k { short_block = counted k.short_block 1 }
with_skip skip.BadOptionLength k = record k { bad_option_length = counted k.bad_option_length 1 }
with_skip skip.UnknownTimeUnit k = record k { unknown_time_unit = counted k.unknown_time_unit 1 }
with_skip skip.NegativeTimeOffset k = record k { negative_time_offset = counted k.negative_time_offset 1 }
with_skip skip.TooManyInterfaces k = record k { too_many_interfaces = counted k.too_many_interfaces 1 }
with_skip skip.UnknownInterface k = record k { unknown_interface = counted k.unknown_interface 1 }
with_skip skip.UnreadInterface k = record k { unread_interface = counted k.unread_interface 1 }
with_skip skip.TimeTooLarge k = record k { time_too_large = counted k.time_too_large 1 }
with_skip skip.PacketBeyondBlock k = record k { packet_beyond_block = counted k.packet_beyond_block 1 }
with_skip skip.PacketTooLong k = record k { packet_too_long = counted k.packet_too_long 1 }

abbrev pub with_skipped : SkipReason → PacketCounts → PacketCounts
with_skipped why c = record c { skipped = with_skip why c.skipped }

abbrev pub with_next_file : (was_cut : Bool) → SplitState → SplitState
with_next_file was_cut s = record s { counts = with_file was_cut s.counts }

-- ---- a packet

-- the segment in a packet on a link
abbrev pub segment_on : Result LinkType NoSegment → (packet : List ℕ) → (original : ℕ) → Result Seen NoSegment
segment_on (Ok link) packet original = segment_of link packet original
segment_on (Err why) packet original = Err why

abbrev pub segment_in : kept.Packet → Result Seen NoSegment
segment_in p = segment_on (link_of p.link) p.bytes p.original

-- It is of a connection, and not all of its payload was captured.
abbrev pub is_snapped : Table → Seen → Bool
is_snapped t g = nat_lt 0 g.missing && is_some (first_way t.ports g.head)

-- A packet of this time with a segment reports what that does, and is counted; one without is counted by the reason.
abbrev pub ReportsRead : Result Seen NoSegment → (time : Option ℕ) → (all : Bool) → SplitState → List ConnectionEvent → SplitState → Type 0
ReportsRead (Ok g) time all s ss u =
    ReportsTimed all time g s.table ss u.table × (u ≡ record s { table = u.table; counts = with_segment (is_snapped s.table g) s.counts })
ReportsRead (Err why) time all s ss u = (ss ≡ []) × (u ≡ record s { counts = without_segment why s.counts })

abbrev pub ReportsPacket : kept.Packet → (all : Bool) → SplitState → List ConnectionEvent → SplitState → Type 0
ReportsPacket p all s ss u = ReportsRead (segment_in p) p.time all s ss u

-- ---- packets that leave the window

abbrev pub with_order : Order → SplitState → SplitState
with_order o s = record s { order = o }

module _ (leaves : Order → Release) where
  -- a packet leaves, and reports what it does
  abbrev pub Hands : (all : Bool) → SplitState → kept.Packet → List ConnectionEvent → SplitState → Type 0
  Hands all s p ss u = (o : Order) × (releasing (Some p) o ≡ leaves s.order) × ReportsPacket p all (with_order o s) ss u

  -- these do, one after the other
  abbrev pub HandsEach : SplitState → List kept.Packet → List ConnectionEvent → SplitState → Type 0
  HandsEach s [] ss u = (ss ≡ []) × (u ≡ s)
  HandsEach s (p ∷ ps) ss u =
      (m : SplitState) × (first : List ConnectionEvent) × (rest : List ConnectionEvent) × (ss ≡ first ++ rest)
      × Hands true s p first m × HandsEach m ps rest u

  -- so do all that leave, or all but the last, in which something failed
  abbrev pub HandsAll : (all : Bool) → SplitState → List ConnectionEvent → SplitState → Type 0
  HandsAll true s ss u = (ps : List kept.Packet) × HandsEach s ps ss u × (releasing None u.order ≡ leaves u.order)
  HandsAll false s ss u =
      (ps : List kept.Packet) × (p : kept.Packet) × (m : SplitState) × (front : List ConnectionEvent) × (rest : List ConnectionEvent)
      × (ss ≡ front ++ rest) × HandsEach s ps front m × Hands false m p rest u

-- A packet comes to the window, and those leave that have to.
abbrev pub ReportsArrived : (all : Bool) → SplitState → kept.Packet → List ConnectionEvent → SplitState → Type 0
ReportsArrived all s p ss u = HandsAll due_left all (with_order (arrived p s.order) s) ss u

-- unless memory for it is refused
abbrev pub ReportsCome : (all : Bool) → SplitState → kept.Packet → List ConnectionEvent → SplitState → Type 0
ReportsCome true s p ss u = ReportsArrived true s p ss u
ReportsCome false s p ss u = ((ss ≡ []) × (u ≡ s)) ⊎ ReportsArrived false s p ss u

-- ---- events

-- the packet that began, with its bytes
abbrev pub packet_begun : SplitState → (bytes : List ℕ) → kept.Packet
packet_begun s bytes = packet s.link s.time s.original bytes

abbrev pub ReportsEvent : (all : Bool) → SplitState → Event → List ConnectionEvent → SplitState → Type 0
ReportsEvent all s (Section form) ss u = (ss ≡ []) × (u ≡ s)
ReportsEvent all s (Interface head) ss u = (ss ≡ []) × (u ≡ s)
ReportsEvent all s (Packet head) ss u = (ss ≡ []) × (u ≡ record s { link = head.link; time = head.time; original = head.original })
ReportsEvent all s (Bytes bytes) ss u = ReportsCome all s (packet_begun s bytes) ss u
ReportsEvent all s (Skipped why) ss u = (ss ≡ []) × (u ≡ record s { counts = with_skipped why s.counts })

-- events, in order
abbrev pub ReportsEvents : SplitState → List (ℕ × Event) → List ConnectionEvent → SplitState → Type 0
ReportsEvents s [] ss u = (ss ≡ []) × (u ≡ s)
ReportsEvents s (e ∷ es) ss u =
    (m : SplitState) × (first : List ConnectionEvent) × (rest : List ConnectionEvent) × (ss ≡ first ++ rest)
    × ReportsEvent true s e.1 first m × ReportsEvents m es rest u

-- ---- the end

abbrev pub with_table : Table → SplitState → SplitState
with_table t s = record s { table = t }

-- The packets leave that wait, and then all connections do.
abbrev pub LeavesLast : (all : Bool) → SplitState → List ConnectionEvent → SplitState → Type 0
LeavesLast all s ss u =
    (m : SplitState) × (front : List ConnectionEvent) × (last : List ConnectionEvent) × (ss ≡ front ++ last)
    × HandsAll first_left true s front m × FinishesAll all m.table last u.table × (u ≡ with_table u.table m)

abbrev pub Finishes : (all : Bool) → SplitState → List ConnectionEvent → SplitState → Type 0
Finishes true s ss u = LeavesLast true s ss u
Finishes false s ss u = HandsAll first_left false s ss u ⊎ LeavesLast false s ss u
