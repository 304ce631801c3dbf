-- The segment of TCP in a captured packet.
use Rattle.std.specs.Prelude.{ℕ, ◌+◌, ◌-◌, List, length, take, drop, Result, Ok, slice_index}
use Rattle.cqlp_tcp_segment.specs.declared.link.LinkType.{LinkType}
use Rattle.cqlp_tcp_segment.specs.declared.reason.NoSegment.{NoSegment}
use Rattle.cqlp_tcp_segment.specs.declared.segments.Segment.{Segment}
use Rattle.cqlp_tcp_segment.specs.declared.segments.SegmentHead.{SegmentHead}
use Rattle.cqlp_tcp_segment.specs.Fields.{number_16, number_32, ◌>>=◌}
use Rattle.cqlp_tcp_segment.specs.Link.{ip_packet}
use Rattle.cqlp_tcp_segment.specs.Ip.{Load}
use Rattle.cqlp_tcp_segment.specs.Tunnels.{innermost}
use Rattle.cqlp_tcp_segment.specs.Tcp.{flags_of, header_length}

-- a segment without where its payload lies in memory
pub record Seen : Type 0 where
  pub head : SegmentHead
  pub offset : ℕ
  pub payload : List ℕ
  pub missing : ℕ

abbrev pub seen : Segment → Seen
seen s = record { head = s.head; offset = s.offset; payload = s.payload.now; missing = s.missing }

-- the fields of the header of TCP (RFC 9293, section 3.1), between these addresses
abbrev pub head_of : Load → SegmentHead
head_of l = record {
  source = record { address = l.source; port = number_16 0 l.bytes };
  destination = record { address = l.destination; port = number_16 2 l.bytes };
  sequence = number_32 4 l.bytes;
  acknowledgement = number_32 8 l.bytes;
  flags = flags_of (slice_index l.bytes 13);
}

-- the payload after a header of this many bytes: what comes after it of the bytes that IP carries, as far as they were captured
abbrev pub payload_of : (header : ℕ) → Load → List ℕ
payload_of header l = drop header (take l.size l.bytes)

-- The segment whose header has this many bytes. The bytes that IP carries begin so many bytes before the packet's end as
-- there are of them with what pads the packet.
abbrev pub segment_with : (header : ℕ) → Load → (packet : List ℕ) → Seen
segment_with header l packet = record {
  head = head_of l;
  offset = length packet - length l.bytes + header;
  payload = payload_of header l;
  missing = l.size - length l.bytes;
}

-- how many bytes the packet had beyond those that were captured
abbrev pub beyond : (original : ℕ) → List ℕ → ℕ
beyond original packet = original - length packet

-- The segment, in the packet of IP or in one that tunnels carry in it, of which there are four at most; or the first reason why
-- there is none, from the outer header to the inner.
unfoldable pub segment_of : LinkType → List ℕ → (original : ℕ) → Result Seen NoSegment
segment_of link packet original = do
  ip ← ip_packet link packet
  load ← innermost 5 (beyond original packet) ip
  header ← header_length load
  Ok (segment_with header load packet)
