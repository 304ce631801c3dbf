-- Tunnels: packets of IP that packets of IP carry.
use Rattle.std.specs.Prelude.{◌+◌, ◌%◌, ◌==◌, ◌||◌}
use Rattle.std.specs.Prelude.{ℕ, zero, suc, Bool, List, length, drop, Result, Ok, Err, not, bit_and, nat_lt, slice_index, if◌then◌else◌}
use Rattle.cqlp_tcp_segment.specs.declared.ether_type.IpVersion.{IpVersion}
use Rattle.cqlp_tcp_segment.specs.declared.ether_type.IpVersion.TheVariants.{V4, V6}
use Rattle.cqlp_tcp_segment.specs.declared.reason.NoSegment.{NoSegment}
use Rattle.cqlp_tcp_segment.specs.declared.reason.NoSegment.TheVariants.{NotTcp, CutInTunnel, TooManyTunnels}
use Rattle.cqlp_tcp_segment.specs.Fields.{number_16, ◌>>=◌}
use Rattle.cqlp_tcp_segment.specs.EtherType.{after_ether_type}
use Rattle.cqlp_tcp_segment.specs.Link.{after_type}
use Rattle.cqlp_tcp_segment.specs.Ip.{Load, carried_by}

-- What IP carries, or what was captured of it, has less than this many bytes.
abbrev pub ends_before : (count : ℕ) → Load → Bool
ends_before n l = nat_lt l.size n || nat_lt (length l.bytes) n

-- ---- GRE (RFC 2784, section 2.1, and RFC 2890, section 2)

-- the flags of a checksum, a key and a sequence number, each of four bytes where its flag is set
abbrev pub field_length : (flag flags : ℕ) → ℕ
field_length flag flags = if bit_and flags flag == 0 then 0 else 4

abbrev pub gre_header : (flags : ℕ) → ℕ
gre_header flags = 4 + field_length 0x80 flags + field_length 0x20 flags + field_length 0x10 flags

-- The flag of routing (RFC 1701) is not set, and the version, in the last three bits, is 0.
abbrev pub is_plain_gre : List ℕ → Bool
is_plain_gre b = not (not (bit_and (slice_index b 0) 0x40 == 0) || not (slice_index b 1 % 8 == 0))

-- EtherType 6558 is that of a frame of Ethernet.
abbrev pub after_gre : List ℕ → (rest : List ℕ) → Result (IpVersion × List ℕ) NoSegment
after_gre b rest = if number_16 2 b == 0x6558 then after_type 12 14 rest else after_ether_type (number_16 2 b) rest

unfoldable pub in_gre : Load → Result (IpVersion × List ℕ) NoSegment
in_gre l =
    if ends_before 4 l then Err CutInTunnel
    else if not (is_plain_gre l.bytes) then Err NotTcp
    else if ends_before (gre_header (slice_index l.bytes 0)) l then Err CutInTunnel
    else after_gre l.bytes (drop (gre_header (slice_index l.bytes 0)) l.bytes)

-- ---- VXLAN (RFC 7348, section 5)

-- The header of UDP (RFC 768) has the port 4789 at its second byte pair. Eight bytes later, the header of VXLAN begins with flags,
-- of which 08 is set, and after its eight bytes comes a frame of Ethernet.
unfoldable pub in_vxlan : Load → Result (IpVersion × List ℕ) NoSegment
in_vxlan l =
    if ends_before 4 l || not (number_16 2 l.bytes == 4789) then Err NotTcp
    else if ends_before 16 l then Err CutInTunnel
    else if bit_and (slice_index l.bytes 8) 0x08 == 0 then Err NotTcp
    else after_type 12 14 (drop 16 l.bytes)

-- ---- any tunnel

-- The packet of IP in what another one carries, by the protocol: IPv4 in IP (RFC 2003), IPv6 in IP (RFC 4213), UDP, and GRE
abbrev pub in_packet : Load → Result (IpVersion × List ℕ) NoSegment
in_packet l =
    if l.protocol == 4 then Ok (V4, l.bytes)
    else if l.protocol == 41 then Ok (V6, l.bytes)
    else if l.protocol == 17 then in_vxlan l
    else if l.protocol == 47 then in_gre l
    else Err NotTcp

-- What the innermost packet of IP carries, where a packet of IP and those in it are so many at most.
unfoldable pub innermost : (packets beyond : ℕ) → IpVersion × List ℕ → Result Load NoSegment
innermost zero beyond ip = Err TooManyTunnels
innermost (suc packets) beyond ip =
    carried_by ip.0 beyond ip.1 >>= λ l. if l.protocol == 6 then Ok l else in_packet l >>= innermost packets beyond
