-- The header of TCP (RFC 9293, section 3.1).
use Rattle.std.specs.Prelude.{◌*◌, ◌/◌, ◌==◌, ◌||◌, if◌then◌else◌}
use Rattle.std.specs.Prelude.{ℕ, Bool, List, length, Result, Ok, Err, not, bit_and, nat_lt, slice_index}
use Rattle.cqlp_tcp_segment.specs.declared.reason.NoSegment.{NoSegment}
use Rattle.cqlp_tcp_segment.specs.declared.reason.NoSegment.TheVariants.{CutInTcp, BadTcpLength}
use Rattle.cqlp_tcp_segment.specs.declared.tcp.Flags.{Flags}
use Rattle.cqlp_tcp_segment.specs.Ip.{Load}

-- the control bits, from the lowest: FIN, SYN, RST, PSH, ACK, URG, ECE, CWR
abbrev pub is_set : (mask bits : ℕ) → Bool
is_set mask bits = not (bit_and bits mask == 0)

abbrev pub flags_of : ℕ → Flags
flags_of bits = record { syn = is_set 2 bits; fin = is_set 1 bits; rst = is_set 4 bits; ack = is_set 16 bits }

-- the data offset, in words of four bytes
abbrev pub data_offset : List ℕ → ℕ
data_offset b = slice_index b 12 / 16 * 4

-- The length of the header. All of it is among the bytes that IP carries, and was captured.
abbrev pub header_length : Load → Result ℕ NoSegment
header_length l =
    if nat_lt l.size 20 then Err BadTcpLength
    else if nat_lt (length l.bytes) 20 then Err CutInTcp
    else if nat_lt (data_offset l.bytes) 20 || nat_lt l.size (data_offset l.bytes) then Err BadTcpLength
    else if nat_lt (length l.bytes) (data_offset l.bytes) then Err CutInTcp
    else Ok (data_offset l.bytes)
