-- The ends of connections, and which way a segment goes between them.
use Rattle.std.specs.Prelude.{ℕ, ◌+◌, ◌*◌, Bool, false, ◌==◌, ◌&&◌, List, ◌++◌, bytes_eq, Option, Some, None, if◌then◌else◌}
use Rattle.std.specs.Hash as fed
use Rattle.std.specs.Hash.{HashWrites}
use Rattle.std.specs.Int.{w32, w128, from_be_bytes}
use Rattle.std.specs.List.{list_any}
use Rattle.cqlp_tcp_segment.specs.declared.addresses.Address.{Address}
use Rattle.cqlp_tcp_segment.specs.declared.addresses.Address.TheVariants.{V4, V6}
use Rattle.cqlp_tcp_segment.specs.declared.addresses.Endpoint.{Endpoint}
use Rattle.cqlp_tcp_segment.specs.declared.segments.SegmentHead.{SegmentHead}
use Rattle.cqlp_tcp_segment.specs.declared.tcp.Flags.{Flags}
use Rattle.cqlp_tcp_connections.specs.declared.ends.Ends.{Ends}
use Rattle.cqlp_tcp_connections.specs.declared.ends.Way.{Way}
use Rattle.cqlp_tcp_connections.specs.declared.ends.Way.TheVariants.{Requests, Responses}

-- the same octets, of the same version of IP
abbrev pub same_address : Address → Address → Bool
same_address (V4 a) (V4 b) = bytes_eq a b
same_address (V4 a) (V6 b) = false
same_address (V6 a) (V4 b) = false
same_address (V6 a) (V6 b) = bytes_eq a b

abbrev pub same_end : Endpoint → Endpoint → Bool
same_end a b = a.port == b.port && same_address a.address b.address

abbrev pub same_ends : Ends → Ends → Bool
same_ends e f = same_end e.client f.client && same_end e.node f.node

abbrev pub other : Way → Way
other Requests = Responses
other Responses = Requests

abbrev pub ends_of : Way → SegmentHead → Ends
ends_of Requests h = record { client = h.source; node = h.destination }
ends_of Responses h = record { client = h.destination; node = h.source }

-- whether a port is one of these
abbrev pub asks : List ℕ → ℕ → Bool
asks ports port = list_any (λ p. p == port) ports

-- The end whose port is asked for is the node. Where both are, SYN with ACK is a node's answer (RFC 9293, section 3.5), and all else
-- a client's.
abbrev pub way_of_flags : Flags → Way
way_of_flags f = if f.syn && f.ack then Responses else Requests

abbrev pub way_of_ports : (to_node from_node : Bool) → Flags → Option Way
way_of_ports to_node from_node f =
    if to_node && from_node then Some (way_of_flags f)
    else if to_node then Some Requests
    else if from_node then Some Responses
    else None

abbrev pub first_way : List ℕ → SegmentHead → Option Way
first_way ports h = way_of_ports (asks ports h.destination.port) (asks ports h.source.port) h.flags

-- Requests go from the client to the node, responses back.
abbrev pub way_between : Ends → SegmentHead → Option Way
way_between e h =
    if same_ends (ends_of Requests h) e then Some Requests
    else if same_ends (ends_of Responses h) e then Some Responses
    else None

-- ---- what ends feed a hasher: of each an IPv4 address with its port as one number, or an IPv6 address and then the port

abbrev pub number_of : (octets : List ℕ) → (port : ℕ) → ℕ
number_of octets port = from_be_bytes w32 octets * 65536 + port

abbrev pub fed_address : (port : ℕ) → Address → HashWrites
fed_address port (V4 octets) = fed.u64 (number_of octets port)
fed_address port (V6 octets) = fed.u128 (from_be_bytes w128 octets) ++ fed.u16 port

abbrev pub fed_end : Endpoint → HashWrites
fed_end e = fed_address e.port e.address

abbrev pub fed_ends : Ends → HashWrites
fed_ends e = fed_end e.client ++ fed_end e.node
