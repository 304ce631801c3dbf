-- The frames of one direction, by their headers (section 2 of native_protocol_v4.spec).
use Rattle.std.specs.Prelude.{ℕ, Bool, List, length, Option, Some, None, nat_lt, slice_index, slice_set, bit_and, if◌then◌else◌, Result, Ok, Err}
use Rattle.cqlp_note.specs.declared.header.Header.{Header}
use Rattle.cqlp_note.specs.declared.refusal.Reason.{Reason}
use Rattle.cqlp_note.specs.Heading.{heading, same}

-- ---- a header, whose frame may be compressed (flag 01, section 2.2)

abbrev pub with_flags : (flags : ℕ) → Header → Header
with_flags flags h = record {
  response = h.response;
  flags = flags;
  stream = h.stream;
  opcode = h.opcode;
  length = h.length;
}

abbrev pub in_direction : (responses : Bool) → (flags : ℕ) → Result Header (ℕ × Reason) → Option Header
in_direction responses flags (Ok h) = if same h.response responses then Some (with_flags flags h) else None
in_direction responses flags (Err e) = None

-- nine bytes as the header of a frame of this direction
abbrev pub head_of : (responses : Bool) → List ℕ → Option Header
head_of responses b = in_direction responses (slice_index b 1) (heading (slice_set b 1 (bit_and (slice_index b 1) 0xFE)))

-- the same, if they are nine
abbrev pub head_within : (responses : Bool) → List ℕ → Option Header
head_within responses b = if nat_lt (length b) 9 then None else head_of responses b
