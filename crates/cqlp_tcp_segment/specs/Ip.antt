-- What packets of IP carry.
use Rattle.std.specs.Prelude.{◌+◌, ◌-◌, ◌*◌, ◌/◌, ◌%◌, ◌==◌, ◌&&◌, ◌||◌, ◌∷◌}
use Rattle.std.specs.Prelude.{ℕ, zero, suc, Bool, List, [], length, drop, Result, Ok, Err, not}
use Rattle.std.specs.Prelude.{nat_lt, slice_index, slice_range, if◌then◌else◌}
use Rattle.cqlp_tcp_segment.specs.declared.addresses.Address.{Address}
use Rattle.cqlp_tcp_segment.specs.declared.addresses.Address.TheVariants as address
use Rattle.cqlp_tcp_segment.specs.declared.ip.Carried.{Carried}
use Rattle.cqlp_tcp_segment.specs.declared.ip.Upper.{Upper}
use Rattle.cqlp_tcp_segment.specs.declared.ether_type.IpVersion.{IpVersion}
use Rattle.cqlp_tcp_segment.specs.declared.ether_type.IpVersion.TheVariants.{V4, V6}
use Rattle.cqlp_tcp_segment.specs.declared.reason.NoSegment.{NoSegment}
use Rattle.cqlp_tcp_segment.specs.declared.reason.NoSegment.TheVariants.{NotIp, CutInIp, BadIpLength, Fragment}
use Rattle.cqlp_tcp_segment.specs.Fields.{number_16, ◌>>=◌}

-- What a packet of IP carries: its protocol, how many bytes by the word of IP's header, and what was captured from the first of
-- them on, with what pads the packet.
pub record Load : Type 0 where
  pub source : Address
  pub destination : Address
  pub protocol : ℕ
  pub size : ℕ
  pub bytes : List ℕ

abbrev pub view : Carried → Load
view c = record { source = c.source; destination = c.destination; protocol = c.protocol; size = c.size; bytes = c.bytes.now }

-- A length of 0 is that of a packet which a network card is to cut into segments: it has all the bytes that there were,
-- those that were captured and those beyond them.
abbrev pub length_or_all : (said beyond : ℕ) → List ℕ → ℕ
length_or_all said beyond b = if said == 0 then length b + beyond else said

-- ---- IPv4 (RFC 791, section 3.1)

-- the version, in the first four bits
abbrev pub version : List ℕ → ℕ
version b = slice_index b 0 / 16

-- the length of the header, in words of four bytes
abbrev pub header_4 : List ℕ → ℕ
header_4 b = slice_index b 0 % 16 * 4

-- the total length, with the header
abbrev pub total_4 : (beyond : ℕ) → List ℕ → ℕ
total_4 beyond b = length_or_all (number_16 2 b) beyond b

-- more fragments follow, or the fragment's offset is not 0
abbrev pub is_fragment_4 : List ℕ → Bool
is_fragment_4 b = not (number_16 6 b % 0x4000 == 0)

-- the addresses
abbrev pub address_4 : (i : ℕ) → List ℕ → Address
address_4 i b = address.V4 (slice_index b i ∷ slice_index b (i + 1) ∷ slice_index b (i + 2) ∷ slice_index b (i + 3) ∷ [])

abbrev pub load_4 : (beyond : ℕ) → List ℕ → Load
load_4 beyond b = record {
  source = address_4 12 b;
  destination = address_4 16 b;
  protocol = slice_index b 9;
  size = total_4 beyond b - header_4 b;
  bytes = drop (header_4 b) b;
}

unfoldable pub carried_by_4 : (beyond : ℕ) → List ℕ → Result Load NoSegment
carried_by_4 beyond b =
    if nat_lt (length b) 20 then Err CutInIp
    else if not (version b == 4) then Err NotIp
    else if nat_lt (header_4 b) 20 || nat_lt (total_4 beyond b) (header_4 b) then Err BadIpLength
    else if is_fragment_4 b then Err Fragment
    else if nat_lt (length b) (header_4 b) then Err CutInIp
    else Ok (load_4 beyond b)

-- ---- IPv6 (RFC 8200, sections 3 and 4)

-- Extension headers that are passed over: options for each hop, routing, fragment, authentication (RFC 4302, section 2),
-- options for the destination.
abbrev pub is_extension : ℕ → Bool
is_extension kind = (kind == 0) || (kind == 43) || (kind == 44) || (kind == 51) || (kind == 60)

-- in how many bytes the second byte of such a header counts those after the first eight: none in the header of a fragment
abbrev pub unit : (kind : ℕ) → ℕ
unit kind = if kind == 44 then 0 else if kind == 51 then 4 else 8

-- The header is that of a fragment (RFC 8200, section 4.5), and the packet is not whole: the fragment's offset, the first 13 of
-- these 16 bits, is not 0, or the last bit is set, as more fragments follow.
abbrev pub is_part : (kind number : ℕ) → Bool
is_part kind number = (kind == 44) && not ((number / 8 == 0) && (number % 2 == 0))

-- what comes after them: its protocol, how many bytes it has, and what was captured from the first of them on
pub record Above : Type 0 where
  pub protocol : ℕ
  pub size : ℕ
  pub bytes : List ℕ

abbrev pub above : (kind size : ℕ) → List ℕ → Above
above kind size b = record { protocol = kind; size = size; bytes = b }

abbrev pub upper_view : Upper → Above
upper_view u = above u.protocol u.size u.bytes.now

-- An extension header begins with the kind of the header after it, and with its length. This many bytes are left of the one
-- before; then come, with `size` bytes in all, a header of this kind and the others after it.
abbrev pub past_extensions : (left kind size : ℕ) → List ℕ → Result Above NoSegment
past_extensions (suc left) kind size (b ∷ bytes) = past_extensions left kind size bytes
past_extensions (suc left) kind size [] = Err CutInIp
past_extensions zero kind size (next ∷ units ∷ bytes) =
    if is_extension kind
    then if nat_lt size (8 + unit kind * units) then Err BadIpLength
    else if nat_lt (length bytes) (6 + unit kind * units) then Err CutInIp
    else if is_part kind (number_16 0 bytes) then Err Fragment
    else past_extensions (6 + unit kind * units) next (size - (8 + unit kind * units)) bytes
    else Ok (above kind size (next ∷ units ∷ bytes))
past_extensions zero kind size b = if is_extension kind then Err CutInIp else Ok (above kind size b)

-- the length of what comes after the 40 bytes of the header
abbrev pub size_6 : (beyond : ℕ) → List ℕ → ℕ
size_6 beyond b = length_or_all (number_16 4 b) beyond (drop 40 b)

-- with what comes after the extension headers
abbrev pub load_6 : List ℕ → Above → Load
load_6 b x = record {
  source = address.V6 (slice_range b 8 24);
  destination = address.V6 (slice_range b 24 40);
  protocol = x.protocol;
  size = x.size;
  bytes = x.bytes;
}

unfoldable pub carried_by_6 : (beyond : ℕ) → List ℕ → Result Load NoSegment
carried_by_6 beyond b =
    if nat_lt (length b) 40 then Err CutInIp
    else if not (version b == 6) then Err NotIp
    else past_extensions 0 (slice_index b 6) (size_6 beyond b) (drop 40 b) >>= λ x. Ok (load_6 b x)

abbrev pub carried_by : IpVersion → (beyond : ℕ) → List ℕ → Result Load NoSegment
carried_by V4 beyond b = carried_by_4 beyond b
carried_by V6 beyond b = carried_by_6 beyond b
