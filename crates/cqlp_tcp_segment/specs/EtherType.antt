-- What an EtherType leads to: a packet of IP, behind tags, labels or the header of a session.
use Rattle.std.specs.Prelude.{◌/◌, ◌%◌, ◌==◌, ◌||◌, ◌∷◌}
use Rattle.std.specs.Prelude.{ℕ, Bool, List, [], length, drop, Result, Ok, Err, not, nat_lt, if◌then◌else◌}
use Rattle.std.specs.Int.{w16, from_be_bytes}
use Rattle.cqlp_tcp_segment.specs.declared.ether_type.IpPacket.{IpPacket}
use Rattle.cqlp_tcp_segment.specs.declared.ether_type.IpVersion.{IpVersion}
use Rattle.cqlp_tcp_segment.specs.declared.ether_type.IpVersion.TheVariants.{V4, V6}
use Rattle.cqlp_tcp_segment.specs.declared.reason.NoSegment.{NoSegment}
use Rattle.cqlp_tcp_segment.specs.declared.reason.NoSegment.TheVariants.{CutInLink, CutInIp, NotIp}
use Rattle.cqlp_tcp_segment.specs.Fields.{number_16, ◌>>=◌}

-- a packet of IP without where it lies in memory: its version, and the bytes from its header on
abbrev pub view : IpPacket → IpVersion × List ℕ
view p = (p.version, p.bytes.now)

-- ---- a packet of IP alone

-- the version in the first four bits
abbrev pub raw_version : List ℕ → Result IpVersion NoSegment
raw_version [] = Err CutInIp
raw_version (first ∷ rest) = if first / 16 == 4 then Ok V4 else if first / 16 == 6 then Ok V6 else Err NotIp

-- the packet of IP of which these are the bytes
abbrev pub with_version : List ℕ → Result (IpVersion × List ℕ) NoSegment
with_version b = raw_version b >>= λ v. Ok (v, b)

-- ---- tags

-- the EtherTypes of tags of virtual networks: 802.1Q, 802.1ad, and one in use before it
abbrev pub is_tag : ℕ → Bool
is_tag n = (n == 0x8100) || (n == 0x88A8) || (n == 0x9100)

-- After an EtherType of a tag come two bytes of the tag, and the EtherType of what follows. The first that is none of a tag,
-- and the bytes after it.
abbrev pub untagged : ℕ → List ℕ → Result (ℕ × List ℕ) NoSegment
untagged n (a ∷ b ∷ high ∷ low ∷ rest) =
    if is_tag n then untagged (from_be_bytes w16 (high ∷ low ∷ [])) rest else Ok (n, a ∷ b ∷ high ∷ low ∷ rest)
untagged n b = if is_tag n then Err CutInLink else Ok (n, b)

-- ---- MPLS and PPPoE

-- Labels of MPLS (RFC 3032, section 2.1) have four bytes each. The last bit of the third byte is set in the last label, and a
-- packet of IP comes after it.
abbrev pub after_labels : List ℕ → Result (IpVersion × List ℕ) NoSegment
after_labels (a ∷ b ∷ c ∷ d ∷ rest) = if c % 2 == 1 then with_version rest else after_labels rest
after_labels b = Err CutInLink

-- The header of PPPoE (RFC 2516, section 4): version 1, type 1 and the code 0 of a session, the number of the session and a
-- length; and then the number of a protocol of PPP, 0021 for IPv4 (RFC 1332) and 0057 for IPv6 (RFC 5072).
unfoldable pub after_session : List ℕ → Result (IpVersion × List ℕ) NoSegment
after_session b =
    if nat_lt (length b) 8 then Err CutInLink
    else if not (number_16 0 b == 0x1100) then Err NotIp
    else if number_16 6 b == 0x0021 then Ok (V4, drop 8 b)
    else if number_16 6 b == 0x0057 then Ok (V6, drop 8 b)
    else Err NotIp

-- ---- the packet of IP

-- what comes after an EtherType that is none of a tag
abbrev pub of_type : ℕ → List ℕ → Result (IpVersion × List ℕ) NoSegment
of_type n b =
    if n == 0x0800 then Ok (V4, b)
    else if n == 0x86DD then Ok (V6, b)
    else if (n == 0x8847) || (n == 0x8848) then after_labels b
    else if n == 0x8864 then after_session b
    else Err NotIp

-- the packet of IP after an EtherType and its tags
unfoldable pub after_ether_type : ℕ → List ℕ → Result (IpVersion × List ℕ) NoSegment
after_ether_type n b = untagged n b >>= λ x. of_type x.0 x.1
