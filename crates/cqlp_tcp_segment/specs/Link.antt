-- What comes before the header of IP in a captured packet, by the type of its link (the registry of LINKTYPE_ values).
use Rattle.std.specs.Prelude.{◌==◌, ◌||◌, ◌∷◌}
use Rattle.std.specs.Prelude.{ℕ, Bool, true, false, List, [], length, drop, Option, Some, None, Result, Ok, Err}
use Rattle.std.specs.Prelude.{nat_lt, slice_index, if◌then◌else◌}
use Rattle.std.specs.Int.{w32, from_be_bytes, from_le_bytes}
use Rattle.cqlp_tcp_segment.specs.declared.ether_type.IpVersion.{IpVersion}
use Rattle.cqlp_tcp_segment.specs.declared.ether_type.IpVersion.TheVariants.{V4, V6}
use Rattle.cqlp_tcp_segment.specs.declared.link.LinkType.{LinkType}
use Rattle.cqlp_tcp_segment.specs.declared.link.LinkType.TheVariants as link
use Rattle.cqlp_tcp_segment.specs.declared.reason.NoSegment.{NoSegment}
use Rattle.cqlp_tcp_segment.specs.declared.reason.NoSegment.TheVariants.{UnknownLink, CutInLink, NotIp}
use Rattle.cqlp_tcp_segment.specs.Fields.{number_16}
use Rattle.cqlp_tcp_segment.specs.EtherType.{after_ether_type, with_version}

-- the numbers of the types of links: 12 and 14 are what BSDs write for 101
abbrev pub link_of : ℕ → Result LinkType NoSegment
link_of n =
    if n == 0 then Ok link.Null
    else if n == 1 then Ok link.Ethernet
    else if (n == 12) || (n == 14) || (n == 101) then Ok link.Raw
    else if n == 108 then Ok link.Loop
    else if n == 113 then Ok link.LinuxSll
    else if n == 228 then Ok link.Ipv4
    else if n == 229 then Ok link.Ipv6
    else if n == 276 then Ok link.LinuxSll2
    else Err UnknownLink

-- ---- loopbacks: a family of addresses in four bytes

-- AF_INET, and AF_INET6 of NetBSD and OpenBSD, of FreeBSD, and of Darwin
abbrev pub version_of_family : ℕ → Option IpVersion
version_of_family n =
    if n == 2 then Some V4 else if (n == 24) || (n == 28) || (n == 30) then Some V6 else None

abbrev pub first_of_two : Option IpVersion → Option IpVersion → Option IpVersion
first_of_two (Some v) o = Some v
first_of_two None o = o

abbrev pub four : List ℕ → List ℕ
four b = slice_index b 0 ∷ slice_index b 1 ∷ slice_index b 2 ∷ slice_index b 3 ∷ []

-- The family has its highest byte first, or is in either order.
abbrev pub family_version : (either : Bool) → List ℕ → Option IpVersion
family_version false b = version_of_family (from_be_bytes w32 (four b))
family_version true b =
    first_of_two (version_of_family (from_be_bytes w32 (four b))) (version_of_family (from_le_bytes w32 (four b)))

abbrev pub of_family : Option IpVersion → List ℕ → Result (IpVersion × List ℕ) NoSegment
of_family None b = Err NotIp
of_family (Some v) b = Ok (v, b)

abbrev pub after_family : (either : Bool) → List ℕ → Result (IpVersion × List ℕ) NoSegment
after_family either b =
    if nat_lt (length b) 4 then Err CutInLink else of_family (family_version either b) (drop 4 b)

-- ---- Ethernet and Linux: an EtherType

-- a header of this many bytes, with an EtherType at this index
unfoldable pub after_type : (index header : ℕ) → List ℕ → Result (IpVersion × List ℕ) NoSegment
after_type index header b =
    if nat_lt (length b) header then Err CutInLink else after_ether_type (number_16 index b) (drop header b)

-- The version of IP, and the bytes from its header on.
unfoldable pub ip_packet : LinkType → List ℕ → Result (IpVersion × List ℕ) NoSegment
ip_packet link.Null b = after_family true b
ip_packet link.Loop b = after_family false b
ip_packet link.Ethernet b = after_type 12 14 b
ip_packet link.LinuxSll b = after_type 14 16 b
ip_packet link.LinuxSll2 b = after_type 0 20 b
ip_packet link.Raw b = with_version b
ip_packet link.Ipv4 b = Ok (V4, b)
ip_packet link.Ipv6 b = Ok (V6, b)
