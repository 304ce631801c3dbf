-- How the reading of a capture ends: its exit status, and its line.
use Rattle.std.specs.Prelude.{◌≡◌, ℕ, ◌==◌, ◌||◌, ◌&&◌, Bool, nat_lt, get_or, List, [], ◌∷◌, ◌++◌, length, Result, Ok, Err, ◌⊎◌, codes, decimal, if◌then◌else◌}
use Rattle.cqlp_text.specs.Outputs.{Output, with_text, StopsWithin}
use Rattle.cqlp_capture.specs.declared.event.CaptureEnd.{CaptureEnd}
use Rattle.cqlp_capture.specs.declared.event.CaptureEnd.TheVariants as end
use Rattle.cqlp_capture.specs.declared.refusal.CaptureReason.{CaptureReason}
use Rattle.cqlp_capture.specs.declared.refusal.CaptureReason.TheVariants as reason
use Rattle.cqlp_packet_order.specs.declared.limits.OrderCounts.{OrderCounts}
use Rattle.cqlp_tcp_connections.specs.declared.totals.ConnectionCounts.{ConnectionCounts}
use Rattle.cqlp_capture_streams.specs.declared.capturing.CaptureRead.{CaptureRead}
use Rattle.cqlp_capture_streams.specs.declared.fault.StreamsFault.{StreamsFault}
use Rattle.cqlp_capture_streams.specs.declared.fault.StreamsFault.TheVariants as fault
use Rattle.cqlp_capture_streams.specs.declared.files.FileFault.TheVariants as file
use Rattle.cqlp_capture_streams.specs.declared.packets.PacketCounts.{PacketCounts}
use Rattle.cqlp_capture_streams.specs.declared.packets.WithoutCounts.{WithoutCounts}
use Rattle.cqlp_capture_streams.specs.declared.recorder.Sums.{Sums}
use Rattle.cqlp_capture_streams.specs.declared.skipped.SkippedCounts.{SkippedCounts}
use Rattle.cqlp_capture_streams.specs.Lines.{file_line, joined}

-- ---- the exit status

-- 0 of a whole file, 1 of one that is cut or refused
abbrev pub end_status : CaptureEnd → ℕ
end_status (end.Whole bytes) = 0
end_status (end.Cut at bytes) = 1
end_status (end.Refused r) = 1

-- Blocks, interfaces or packets could not be read.
abbrev pub has_skipped : SkippedCounts → Bool
has_skipped k =
    nat_lt 0 k.short_block || nat_lt 0 k.bad_option_length || nat_lt 0 k.unknown_time_unit || nat_lt 0 k.negative_time_offset
    || nat_lt 0 k.too_many_interfaces || nat_lt 0 k.unknown_interface || nat_lt 0 k.unread_interface || nat_lt 0 k.time_too_large
    || nat_lt 0 k.packet_beyond_block || nat_lt 0 k.packet_too_long

-- Some of it was not read, or a file before the last was cut, or packets came later than the window, or bytes that came early were given up, or connections had to make room for
-- others, or all segments went to other ports.
abbrev pub has_losses : CaptureRead → Bool
has_losses r =
    has_skipped r.packets.skipped || nat_lt 0 r.packets.cut_files || nat_lt 0 r.order.late || nat_lt 0 r.connections.given_up || nat_lt 0 r.connections.crowded
    || ((r.connections.connections == 0) && nat_lt 0 r.connections.foreign)

-- With a note, or losses, not all was seen, and the status is not that of a whole one.
abbrev pub read_status : (note : List ℕ) → CaptureRead → ℕ
read_status note r = if length note == 0 then if has_losses r then 1 else end_status r.end else 1

-- ---- the line of a capture that was read to its end

abbrev pub reason_name : CaptureReason → List ℕ
reason_name reason.Gzip = codes "Gzip"
reason_name reason.UnknownMagic = codes "UnknownMagic"
reason_name reason.UnknownVersion = codes "UnknownVersion"
reason_name reason.FileTooLong = codes "FileTooLong"
reason_name reason.UnknownByteOrder = codes "UnknownByteOrder"
reason_name reason.BadBlockLength = codes "BadBlockLength"
reason_name reason.UnequalBlockLengths = codes "UnequalBlockLengths"

-- a line before it, of what gzip compresses
abbrev pub hint : CaptureReason → List ℕ
hint reason.Gzip = codes "cqlp: compressed by gzip: gunzip -c FILE | cqlp capture -\n"
hint why = []

abbrev pub verdict : CaptureEnd → List ℕ
verdict (end.Whole bytes) = joined (codes "whole " ∷ decimal bytes ∷ [])
verdict (end.Cut at bytes) = joined (codes "cut " ∷ decimal at ∷ codes " " ∷ decimal bytes ∷ [])
verdict (end.Refused r) = joined (hint r.why ∷ codes "refused " ∷ decimal r.at ∷ codes " " ∷ reason_name r.why ∷ [])

-- a name and a number
abbrev pub named_words : (name : List ℕ) → ℕ → List ℕ
named_words name n = joined (codes " " ∷ name ∷ codes " " ∷ decimal n ∷ [])

-- unless that is 0
abbrev pub count_words : (name : List ℕ) → ℕ → List ℕ
count_words name n = if n == 0 then [] else named_words name n

-- how many packets were put before others, and how many were late
abbrev pub order_words : OrderCounts → List ℕ
order_words c =
    joined (count_words (codes "Reordered") c.reordered ∷ count_words (codes "Late") c.late ∷ count_words (codes "OutOfOrder") c.out_of_order ∷ [])

-- how often bytes that came early were given up, and a connection had to leave since the table was full, and how many segments are of
-- other ports
abbrev pub table_words : ConnectionCounts → List ℕ
table_words c =
    joined (count_words (codes "Early") c.given_up ∷ count_words (codes "Crowded") c.crowded ∷ count_words (codes "OtherPorts") c.foreign ∷ [])

-- how many packets had no segment, by the reason
abbrev pub reason_words : WithoutCounts → List ℕ
reason_words w =
    joined (count_words (codes "UnknownLink") w.unknown_link ∷ count_words (codes "CutInLink") w.cut_in_link
    ∷ count_words (codes "NotIp") w.not_ip ∷ count_words (codes "CutInIp") w.cut_in_ip
    ∷ count_words (codes "BadIpLength") w.bad_ip_length ∷ count_words (codes "Fragment") w.fragment
    ∷ count_words (codes "NotTcp") w.not_tcp ∷ count_words (codes "CutInTunnel") w.cut_in_tunnel
    ∷ count_words (codes "TooManyTunnels") w.too_many_tunnels ∷ count_words (codes "CutInTcp") w.cut_in_tcp
    ∷ count_words (codes "BadTcpLength") w.bad_tcp_length ∷ [])

unfoldable pub skip_words : SkippedCounts → List ℕ
skip_words k =
    joined (count_words (codes "ShortBlock") k.short_block ∷ count_words (codes "BadOptionLength") k.bad_option_length
    ∷ count_words (codes "UnknownTimeUnit") k.unknown_time_unit ∷ count_words (codes "NegativeTimeOffset") k.negative_time_offset
    ∷ count_words (codes "TooManyInterfaces") k.too_many_interfaces ∷ count_words (codes "UnknownInterface") k.unknown_interface
    ∷ count_words (codes "UnreadInterface") k.unread_interface ∷ count_words (codes "TimeTooLarge") k.time_too_large
    ∷ count_words (codes "PacketBeyondBlock") k.packet_beyond_block ∷ count_words (codes "PacketTooLong") k.packet_too_long ∷ [])

-- how many files came after the first, and how many before the last were cut
abbrev pub file_words : PacketCounts → List ℕ
file_words c = joined (count_words (codes "MoreFiles") c.more_files ∷ count_words (codes "CutFiles") c.cut_files ∷ [])

abbrev pub head_words : CaptureRead → List ℕ
head_words r =
    joined (named_words (codes "packets") r.packets.packets ∷ named_words (codes "segments") r.packets.segments
    ∷ named_words (codes "connections") r.connections.connections ∷ [])

-- with a caller's own words
abbrev pub read_line : (words : List ℕ) → CaptureRead → List ℕ
read_line words r =
    joined (verdict r.end ∷ head_words r ∷ codes " " ∷ words ∷ order_words r.order ∷ count_words (codes "Snapped") r.packets.snapped
    ∷ table_words r.connections ∷ reason_words r.packets.without ∷ skip_words r.packets.skipped ∷ file_words r.packets
    ∷ codes "\n" ∷ [])

-- ---- the line where no packet is of the ports

-- all but the first, each behind a comma
abbrev pub more_port : ℕ → List ℕ
more_port p = joined (codes ", " ∷ decimal p ∷ [])

abbrev pub more_ports : List ℕ → List ℕ
more_ports [] = []
more_ports (p ∷ ps) = more_port p ++ more_ports ps

abbrev pub ports_words : List ℕ → List ℕ
ports_words [] = []
ports_words (p ∷ ps) = decimal p ++ more_ports ps

-- a port, and how many segments had it
abbrev pub port_words : (ℕ × ℕ) → List ℕ
port_words p = joined (decimal p.0 ∷ codes " (" ∷ decimal p.1 ∷ codes ")" ∷ [])

abbrev pub behind_words : (ℕ × ℕ) → List ℕ
behind_words p = joined (codes ", " ∷ port_words p ∷ [])

-- one more, if some had it
abbrev pub next_words : (ℕ × ℕ) → List ℕ
next_words p = if p.1 == 0 then [] else behind_words p

abbrev pub busy_words : (ports : List ℕ) → (first second third : ℕ × ℕ) → List ℕ
busy_words ports first second third =
    joined (codes "cqlp: no packet of port " ∷ ports_words ports ∷ codes "; most went to " ∷ port_words first ∷ next_words second
    ∷ next_words third ∷ codes "\n" ∷ [])

abbrev pub nth_busy : List (ℕ × ℕ) → ℕ → ℕ × ℕ
nth_busy ps n = get_or ps n (0, 0)

-- where there was no connection, but segments of other ports
abbrev pub busy_line : (ports : List ℕ) → CaptureRead → List ℕ
busy_line ports r =
    if nat_lt 0 r.connections.connections then []
    else if (nth_busy r.busiest 0).1 == 0 then []
    else busy_words ports (nth_busy r.busiest 0) (nth_busy r.busiest 1) (nth_busy r.busiest 2)

-- those of streams
abbrev pub sums_words : Sums → List ℕ
sums_words s = joined (codes "gaps " ∷ decimal s.gaps ∷ codes " bytes " ∷ decimal s.bytes ∷ [])

-- ---- the line of a fault

abbrev pub no_memory_line : List ℕ
no_memory_line = codes "cqlp: no memory\n"

abbrev pub fault_line : StreamsFault → List ℕ
fault_line fault.Read = codes "cqlp: read fault\n"
fault_line fault.Write = codes "cqlp: write fault\n"
fault_line fault.TooManyTurns = codes "cqlp: too many turns\n"
fault_line fault.NoMemory = no_memory_line
fault_line (fault.File file.NoMemory) = no_memory_line
fault_line (fault.File (file.CannotMake f)) = file_line (codes "make") f
fault_line (fault.File (file.CannotWrite f)) = file_line (codes "write") f
fault_line (fault.File (file.CannotKeep f)) = file_line (codes "keep") f

-- ---- how it is reported

-- the last line of a capture that was read, behind the busiest ports and a note; or that of a fault
abbrev pub last_line : (ports note words : List ℕ) → Result CaptureRead StreamsFault → List ℕ
last_line ports note words (Ok r) = busy_line ports r ++ (note ++ read_line words r)
last_line ports note words (Err f) = fault_line f

-- 3 of all that failed
abbrev pub last_status : (note : List ℕ) → Result CaptureRead StreamsFault → ℕ
last_status note (Ok r) = read_status note r
last_status note (Err f) = 3

-- A line was written, and the status is this one; or the target failed within it, and the status is that of a fault.
abbrev pub Reports : (line : List ℕ) → (intended : ℕ) → Output → (status : ℕ) → Output → Type 0
Reports line intended before status after =
    ((status ≡ intended) × (after ≡ with_text before line)) ⊎ ((status ≡ 3) × StopsWithin before line after)

-- So is the last line, behind a note.
abbrev pub ConcludesNoted : (ports note words : List ℕ) → Result CaptureRead StreamsFault → (before : Output) → (status : ℕ) → (after : Output)
    → Type 0
ConcludesNoted ports note words r before status after = Reports (last_line ports note words r) (last_status note r) before status after

-- without a note
abbrev pub Concludes : (ports words : List ℕ) → Result CaptureRead StreamsFault → (before : Output) → (status : ℕ) → (after : Output) → Type 0
Concludes ports words r before status after = ConcludesNoted ports [] words r before status after
