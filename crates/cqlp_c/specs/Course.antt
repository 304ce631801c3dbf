-- Where a handle is in its stream, which is read in stretches (Stretches of cqlp_skip): each but the first begins after a frame that was passed over.
use Rattle.std.specs.Prelude.{ℕ, zero, suc, ◌+◌, ◌-◌, ◌^◌, min, ℤ, pos, negsuc, List, [], ◌∷◌, Option, Some, None, Result, Ok, Err}
use Rattle.std.specs.Prelude.{Bool, true, false, ◌==◌, ◌&&◌, nat_lt, nat_le, if◌then◌else◌}
use Rattle.cqlp_note.specs.declared.refusal.Refusal.{Refusal}
use Rattle.cqlp_grammar.specs.Events.{Event, Frame, End}
use Rattle.cqlp_grammar.specs.declared.event.Finish.{Finish}
use Rattle.cqlp_grammar.specs.declared.event.Finish.TheVariants as finish
use Rattle.cqlp_skip.specs.Pieces as pieces
use Rattle.cqlp_skip.specs.Stretches.{stream_offset}
use Rattle.cqlp_c.specs.declared.batch.Batch.{Batch}
use Rattle.cqlp_c.specs.declared.batch.Stop.{Stop}
use Rattle.cqlp_c.specs.declared.batch.Stop.TheVariants as stop
use Rattle.cqlp_c.specs.declared.course.CqlpBegun.{CqlpBegun}
use Rattle.cqlp_c.specs.declared.course.CqlpCourse.{CqlpCourse}
use Rattle.cqlp_c.specs.declared.course.CqlpSkipped.{CqlpSkipped}
use Rattle.cqlp_c.specs.declared.course.Unskippable.{Unskippable}
use Rattle.cqlp_c.specs.declared.course.Unskippable.TheVariants.{NotRefused, InHeader, TooFar}
use Rattle.cqlp_c.specs.declared.event.CqlpEvent.{CqlpEvent}
use Rattle.cqlp_c.specs.declared.numbers.TheConstants as numbers
use Rattle.cqlp_c.specs.Events.{blank}
use Rattle.cqlp_c.specs.Numbers.{number_of_reason}

-- ---- the frame under way

abbrev pub no_frame : CqlpBegun
no_frame = record { at = 0; number = pos 0; extra = pos 0; opcode = 0; flags = 0; mark = 0; tag = 0 }

-- what an event says of a header
abbrev pub frame_in : CqlpEvent → CqlpBegun
frame_in c = record {
  at = c.at;
  number = c.number;
  extra = c.extra;
  opcode = c.opcode;
  flags = c.flags;
  mark = c.mark;
  tag = c.tag;
}

-- an event begins or ends a frame
abbrev pub is_edge : Event → Bool
is_edge (Frame h) = true
is_edge (End extra) = true
is_edge e = false

-- the frame under way after an event, as C sees it: a header begins one, and an end ends it
abbrev pub begun_after : CqlpBegun → CqlpEvent → CqlpBegun
begun_after f c =
    if c.tag == numbers.TAG_FRAME then frame_in c else (if c.tag == numbers.TAG_END then no_frame else f)

abbrev pub begun_by : CqlpBegun → List CqlpEvent → CqlpBegun
begun_by f [] = f
begun_by f (c ∷ cs) = begun_by (begun_after f c) cs

-- the event of its header, in a stretch that begins at `base`
abbrev pub event_begun : (base : ℕ) → CqlpBegun → CqlpEvent
event_begun base f = record (blank (stream_offset base f.at)) {
  number = f.number;
  extra = f.extra;
  opcode = f.opcode;
  flags = f.flags;
  mark = f.mark;
  tag = f.tag;
}

-- The end in the whole stream, of which this many bytes were used, of a frame with a body of this length. There is none from the greatest offset on, or before
-- what was used.
abbrev pub end_of_body : ℤ → (at base used : ℕ) → Option ℕ
end_of_body (negsuc n) at base used = None
end_of_body (pos length) at base used =
    let end = base + (at + length + 9) in
    if nat_lt end (2 ^ 64 - 1) && nat_le used end then Some end else None

abbrev pub end_begun : CqlpBegun → (base used : ℕ) → Option ℕ
end_begun f base used = end_of_body f.number f.at base used

-- ---- going on

abbrev pub at_start : CqlpCourse
at_start = record { base = 0; used = 0; last = 0; frame = no_frame }

-- a decoder that was made begins at the start
abbrev pub course_of_new : (code : ℕ) → CqlpCourse → CqlpCourse
course_of_new code c = if code == numbers.DONE then at_start else c

-- after this many bytes more
abbrev pub gone_on : CqlpCourse → (n : ℕ) → CqlpCourse
gone_on c n = record c { used = min (c.used + n) (2 ^ 64 - 1) }

-- events at their offsets in the whole stream, in which their stretch begins at `base`
abbrev pub placed_from : (base : ℕ) → List CqlpEvent → List CqlpEvent
placed_from base [] = []
placed_from base (c ∷ cs) = record c { at = stream_offset base c.at } ∷ placed_from base cs

-- those of the first stretch are there already
abbrev pub placed : (base : ℕ) → List CqlpEvent → List CqlpEvent
placed zero cs = cs
placed (suc n) cs = placed_from (suc n) cs

abbrev pub refusal_from : (base : ℕ) → Refusal → Refusal
refusal_from base r = pieces.refusal_from base r

abbrev pub stop_from : (base : ℕ) → Stop → Stop
stop_from base stop.More = stop.More
stop_from base stop.Full = stop.Full
stop_from base (stop.Refused r) = stop.Refused (refusal_from base r)

-- A batch, before whose bytes others were passed over. That of the first stretch is there already.
abbrev pub batch_from : (base passed : ℕ) → Batch → Batch
batch_from zero passed b = b
batch_from (suc n) passed b =
    record { used = passed + b.used; events = b.events; stop = stop_from (suc n) b.stop }

-- ---- the end

abbrev pub finish_from : (base : ℕ) → Finish → Finish
finish_from base (finish.Whole bytes) = finish.Whole (stream_offset base bytes)
finish_from base (finish.Cut frame_at bytes) = finish.Cut (stream_offset base frame_at) (stream_offset base bytes)
finish_from base (finish.Refused r) = finish.Refused (refusal_from base r)

-- The stream ends within the frame that was passed over last, while bytes of that are missing, and else as its present stretch does.
abbrev pub finish_on : CqlpCourse → Finish → Finish
finish_on c f = if nat_lt c.used c.base then finish.Cut c.last c.used else finish_from c.base f

-- ---- a skip

abbrev pub skip_to : Option ℕ → Refusal → CqlpCourse → Result CqlpSkipped Unskippable
skip_to None r c = Err TooFar
skip_to (Some end) r c = Ok (record {
  frame = event_begun c.base c.frame;
  at = stream_offset c.base r.at;
  rest = end - c.used;
  reason = number_of_reason r.why;
})

-- What passing over the frame under way answers, by what is refused.
abbrev pub skip_by : Option Refusal → CqlpCourse → Result CqlpSkipped Unskippable
skip_by None c = Err NotRefused
skip_by (Some r) c =
    if c.frame.tag == numbers.TAG_FRAME then skip_to (end_begun c.frame c.base c.used) r c else Err InHeader

-- the present stretch ends, and another one begins after the frame
abbrev pub skipped_on : Result CqlpSkipped Unskippable → CqlpCourse → CqlpCourse
skipped_on (Err why) c = c
skipped_on (Ok x) c = record { base = c.used + x.rest; used = c.used; last = x.frame.at; frame = no_frame }

abbrev pub code_of_unskippable : Unskippable → ℕ
code_of_unskippable NotRefused = numbers.NOT_REFUSED
code_of_unskippable InHeader = numbers.IN_HEADER
code_of_unskippable TooFar = numbers.TOO_FAR
