-- The lines of connections.
use Rattle.std.specs.Prelude.{ℕ, List, [], ◌∷◌, ◌++◌, codes, decimal}
use Rattle.std.specs.Net.Addr.{segments_of}
use Rattle.std.specs.Net.Text.{ipv4_text, ipv6_text}
use Rattle.cqlp_tcp_segment.specs.declared.addresses.Address.{Address}
use Rattle.cqlp_tcp_segment.specs.declared.addresses.Address.TheVariants as address
use Rattle.cqlp_tcp_segment.specs.declared.addresses.Endpoint.{Endpoint}
use Rattle.cqlp_tcp_reassembly.specs.declared.step.GapCause.{GapCause}
use Rattle.cqlp_tcp_reassembly.specs.declared.step.GapCause.TheVariants.{Lost, Snapped}
use Rattle.cqlp_tcp_connections.specs.Totals.{counted}
use Rattle.cqlp_tcp_connections.specs.declared.ends.Way.{Way}
use Rattle.cqlp_tcp_connections.specs.declared.ends.Way.TheVariants.{Requests, Responses}
use Rattle.cqlp_tcp_connections.specs.declared.totals.Begin.{Begin}
use Rattle.cqlp_tcp_connections.specs.declared.totals.Begin.TheVariants as begin
use Rattle.cqlp_tcp_connections.specs.declared.totals.End.{End}
use Rattle.cqlp_tcp_connections.specs.declared.totals.End.TheVariants as end
use Rattle.cqlp_tcp_connections.specs.declared.totals.ConnectionTotals.{ConnectionTotals}
use Rattle.cqlp_tcp_connections.specs.declared.totals.DirectionTotals.{DirectionTotals}
use Rattle.cqlp_capture_streams.specs.declared.files.StreamFile.{StreamFile}

abbrev pub joined : List (List ℕ) → List ℕ
joined [] = []
joined (x ∷ xs) = x ++ joined xs

abbrev pub way_name : Way → List ℕ
way_name Requests = codes "requests"
way_name Responses = codes "responses"

-- the end of a gap's line, with a word where the snap length cut the packet
abbrev pub cause_end : GapCause → List ℕ
cause_end Lost = codes "\n"
cause_end Snapped = codes " snapped\n"

-- a gap: its connection and direction, how many bytes were delivered before it, and how many are missing
abbrev pub gap_line : StreamFile → (at length : ℕ) → GapCause → List ℕ
gap_line f at n cause =
    joined (codes "gap " ∷ decimal f.number ∷ codes " " ∷ way_name f.way ∷ codes " " ∷ decimal at ∷ codes " " ∷ decimal n ∷ cause_end cause ∷ [])

-- a file with which that cannot be done
abbrev pub file_line : (deed : List ℕ) → StreamFile → List ℕ
file_line deed f =
    joined (codes "cqlp: cannot " ∷ deed ∷ codes " " ∷ decimal f.number ∷ codes "." ∷ way_name f.way ∷ codes ".bin\n" ∷ [])

-- an end of a connection: an IPv6 address is in brackets (RFC 5952, section 6)
abbrev pub address_text : Address → List ℕ
address_text (address.V4 octets) = ipv4_text octets
address_text (address.V6 octets) = codes "[" ++ ipv6_text (segments_of octets) ++ codes "]"

abbrev pub end_text : Endpoint → List ℕ
end_text e = address_text e.address ++ codes ":" ++ decimal e.port

-- whether the begin and the end of a direction were seen: with SYN, or from the middle; with FIN, or by RST
abbrev pub begin_name : Begin → List ℕ
begin_name begin.Unseen = codes "unseen"
begin_name (begin.Syn n) = codes "begin"
begin_name (begin.Middle n) = codes "middle"

abbrev pub end_name : End → List ℕ
end_name end.Open = codes "open"
end_name end.Fin = codes "end"
end_name end.Reset = codes "reset"

abbrev pub direction_text : DirectionTotals → List ℕ
direction_text d =
    decimal d.bytes ++ codes " gaps " ++ decimal (counted d.gaps d.snapped) ++ codes " " ++ begin_name d.begin ++ codes " " ++ end_name d.end

-- a connection that has left: its number, its two ends, and what its directions delivered
abbrev pub connection_words : (number client node requests responses : List ℕ) → List ℕ
connection_words number client node requests responses =
    codes "connection " ++ number ++ codes " " ++ client ++ codes " " ++ node ++ codes " requests " ++ requests
    ++ codes " responses " ++ responses ++ codes "\n"

abbrev pub connection_line : ConnectionTotals → List ℕ
connection_line c =
    connection_words (decimal c.number) (end_text c.client) (end_text c.node) (direction_text c.requests)
    (direction_text c.responses)
