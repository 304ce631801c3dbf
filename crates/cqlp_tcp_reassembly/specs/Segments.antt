-- Segments, and where they lie in a stream. A position is a number of bytes after the stream's first; it does not wrap.
use Rattle.std.specs.Prelude.{ℕ, ◌+◌, ◌-◌, ◌%◌, ◌^◌, ◌||◌, Bool, List, length, Option, nat_lt, if◌then◌else◌}
use Rattle.cqlp_tcp_reassembly.specs.declared.segment.Control.{Control}
use Rattle.cqlp_tcp_reassembly.specs.declared.segment.Place.{Place}
use Rattle.cqlp_tcp_reassembly.specs.declared.segment.StreamSegment.{StreamSegment}
use Rattle.cqlp_tcp_reassembly.specs.declared.sequence.Distance.{Distance}
use Rattle.cqlp_tcp_reassembly.specs.declared.sequence.Distance.TheVariants.{Ahead, Behind}
use Rattle.cqlp_tcp_reassembly.specs.Sequence.{distance}

-- a segment without where its payload lies in memory
pub record Segment : Type 0 where
  pub control : Control
  pub bytes : List ℕ
  pub time : Option ℕ

abbrev pub captured : StreamSegment → Segment
captured g = record { control = g.control; bytes = g.payload.now; time = g.time }

-- how many bytes it had, captured or not
abbrev pub full_length : Segment → ℕ
full_length g = length g.bytes + g.control.missing

abbrev pub begins_stream : Segment → Bool
begins_stream g = g.control.syn || g.control.fin || nat_lt 0 (length g.bytes) || nat_lt 0 g.control.missing

-- ---- sequence numbers (RFC 9293, section 3.4): SYN has the one before the first byte, FIN the one after the last

abbrev pub first_number : Control → ℕ
first_number c = if c.syn then (c.sequence + 1) % 2 ^ 32 else c.sequence

-- the number at a position
abbrev pub next_number : (first position : ℕ) → ℕ
next_number first position = (first + position) % 2 ^ 32

-- so many bytes from so far away on
abbrev pub place_at : Distance → (position length : ℕ) → Place
place_at (Ahead n) position length = record { skip = 0; at = position + n; to = position + n + length }
place_at (Behind n) position length = record { skip = n; at = position; to = position + (length - n) }

abbrev pub place : (first position : ℕ) → Segment → Place
place first position g =
    place_at (distance (next_number first position) (first_number g.control)) position (full_length g)
