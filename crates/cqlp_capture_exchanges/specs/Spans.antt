-- How far a time lies behind another one, in nanoseconds.
use Rattle.std.specs.Prelude.{ℕ, ◌-◌, Bool, true, false, nat_lt, Option, Some, None, if◌then◌else◌}
use Rattle.cqlp_observer.specs.declared.message.Extent.{Extent}
use Rattle.cqlp_observer.specs.declared.message.Extent.TheVariants.{Whole, Short}
use Rattle.cqlp_observer.specs.declared.message.Frame.{Frame}
use Rattle.cqlp_capture_exchanges.specs.declared.span.Span.{Span}

-- A clock may go back.
abbrev pub span_between : (from to : ℕ) → Span
span_between from to =
    if nat_lt to from then record { is_before = true; nanoseconds = from - to }
    else record { is_before = false; nanoseconds = to - from }

abbrev pub time_between : (from to : Option ℕ) → Option Span
time_between (Some from) (Some to) = Some (span_between from to)
time_between from to = None

-- ---- a frame: whether all of it was captured, and whether its direction ended before its last byte

abbrev pub is_whole : Extent → Bool
is_whole Whole = true
is_whole e = false

abbrev pub is_short : Extent → Bool
is_short Short = true
is_short e = false

-- from the first byte of a request to the last one of its response, if that came
abbrev pub took : (request response : Frame) → Option Span
took q r = if is_short r.extent then None else time_between q.begun r.ended
