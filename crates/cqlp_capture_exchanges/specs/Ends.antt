-- Ends of connections, as the addresses of sockets are written.
use Rattle.std.specs.Prelude.{ℕ, List, [], ◌∷◌, codes, decimal}
use Rattle.std.specs.Net.Addr.{segments_of}
use Rattle.std.specs.Net.Text.{ipv4_text, ipv6_text}
use Rattle.cqlp_tcp_segment.specs.declared.addresses.Address.{Address}
use Rattle.cqlp_tcp_segment.specs.declared.addresses.Address.TheVariants as address
use Rattle.cqlp_tcp_segment.specs.declared.addresses.Endpoint.{Endpoint}
use Rattle.cqlp_capture_exchanges.specs.Times.{joined}

-- an IPv6 address is in brackets (RFC 5952, section 6)
abbrev pub bracketed : (segments : List ℕ) → List ℕ
bracketed segments = joined (codes "[" ∷ ipv6_text segments ∷ codes "]" ∷ [])

abbrev pub address_text : Address → List ℕ
address_text (address.V4 octets) = ipv4_text octets
address_text (address.V6 octets) = bracketed (segments_of octets)

-- alone it has none (section 4)
abbrev pub ip_text : Address → List ℕ
ip_text (address.V4 octets) = ipv4_text octets
ip_text (address.V6 octets) = ipv6_text (segments_of octets)

abbrev pub end_text : Endpoint → List ℕ
end_text e = joined (address_text e.address ∷ codes ":" ∷ decimal e.port ∷ [])
