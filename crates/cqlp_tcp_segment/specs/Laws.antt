-- Laws: where the payload lies, and one answer.
use Rattle.std.specs.Prelude.{◌≡◌, ℕ, ◌+◌, ◌≤◌, ◌-◌, List, length, take, drop, Result, Ok, Err}
use Rattle.cqlp_tcp_segment.specs.declared.link.LinkType.{LinkType}
use Rattle.cqlp_tcp_segment.specs.declared.reason.NoSegment.{NoSegment}
use Rattle.cqlp_tcp_segment.specs.declared.segments.Segment.{Segment}
use Rattle.cqlp_tcp_segment.specs.Fields.{Gives}
use Rattle.cqlp_tcp_segment.specs.Ip.{Load}
use Rattle.cqlp_tcp_segment.specs.Tcp.{header_length}
use Rattle.cqlp_tcp_segment.specs.Segment.{Seen, seen, segment_of, segment_with}

-- The payload is the packet's own bytes at the offset.
abbrev pub IsThePacketsBytes : Type 0
IsThePacketsBytes =
    (link : LinkType) (packet : List ℕ) (original : ℕ) (s : Seen)
    → segment_of link packet original ≡ Ok s
    → (s.offset + length s.payload ≤ length packet) × (s.payload ≡ take (length s.payload) (drop s.offset packet))

-- what a caller sees of an answer, wherever the payload lies in memory
abbrev pub seen_of : Result Segment NoSegment → Result Seen NoSegment
seen_of (Ok s) = Ok (seen s)
seen_of (Err why) = Err why

-- Two answers to one packet are the same.
abbrev pub HasOneAnswer : Type 0
HasOneAnswer =
    (link : LinkType) (packet : List ℕ) (original : ℕ) (a b : Result Segment NoSegment)
    → Gives seen a (segment_of link packet original) → Gives seen b (segment_of link packet original)
    → seen_of a ≡ seen_of b

-- The payload and what is missing of it are what IP carries after the header of TCP: no byte of the payload is lost, and none of
-- what pads the packet is in it.
abbrev pub IsAllOfThePayload : Type 0
IsAllOfThePayload =
    (l : Load) (packet : List ℕ) (header : ℕ) → header_length l ≡ Ok header
    → let s = segment_with header l packet in length s.payload + s.missing ≡ l.size - header
