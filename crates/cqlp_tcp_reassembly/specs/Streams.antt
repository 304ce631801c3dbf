-- One direction of a connection: its bytes in order, and what is reported of it.
use Rattle.std.specs.Prelude.{ℕ, ◌+◌, ◌-◌, ◌≤◌, ◌^◌, ◌==◌, ◌&&◌, ◌||◌, Bool, true, false, List, [], length, take, drop, insert, min}
use Rattle.std.specs.Prelude.{Option, Some, None, is_some, nat_lt, nat_le, if◌then◌else◌, ⊤}
use Rattle.cqlp_tcp_reassembly.specs.declared.run.Part.{Part}
use Rattle.cqlp_tcp_reassembly.specs.declared.run.RunSummary.{RunSummary}
use Rattle.cqlp_tcp_reassembly.specs.declared.segment.Place.{Place}
use Rattle.cqlp_tcp_reassembly.specs.declared.sequence.Distance.{Distance}
use Rattle.cqlp_tcp_reassembly.specs.declared.sequence.Distance.TheVariants.{Ahead, Behind}
use Rattle.cqlp_tcp_reassembly.specs.declared.stream.Stage.{Stage}
use Rattle.cqlp_tcp_reassembly.specs.declared.stream.Stage.TheVariants.{Unseen, Open, Over}
use Rattle.cqlp_tcp_reassembly.specs.declared.step.GapCause.TheVariants.{Lost, Snapped}
use Rattle.cqlp_tcp_reassembly.specs.declared.step.StreamStep.{StreamStep}
use Rattle.cqlp_tcp_reassembly.specs.declared.step.StreamStep.TheVariants as step
use Rattle.cqlp_tcp_reassembly.specs.Sequence.{distance}
use Rattle.cqlp_tcp_reassembly.specs.Segments.{Segment, begins_stream, first_number, next_number, place}
use Rattle.cqlp_tcp_reassembly.specs.Runs.{EarlyRun, behind_first, bytes_at, first_at, first_free, run_of, size_of, summary_at}

-- How far it is; the sequence number of its first byte; how many bytes and missing bytes were reported; what came early, in order;
-- and the position of FIN, if that has come.
pub record StreamState : Type 0 where
  pub stage : Stage
  pub first : ℕ
  pub position : ℕ
  pub runs : List EarlyRun
  pub end : Option ℕ

abbrev pub stream_state : Stage → (first position : ℕ) → List EarlyRun → Option ℕ → StreamState
stream_state stage first position runs end =
    record { stage = stage; first = first; position = position; runs = runs; end = end }

-- a position by the one behind it, which is not 0
abbrev pub fin_before : ℕ → Option ℕ
fin_before next = if next == 0 then None else Some (next - 1)

-- nothing of it was seen
abbrev pub unseen : StreamState
unseen = stream_state Unseen 0 0 [] None

abbrev pub is_over_at : Stage → Bool
is_over_at Over = true
is_over_at Open = false
is_over_at Unseen = false

abbrev pub is_over : StreamState → Bool
is_over s = is_over_at s.stage

abbrev pub size : StreamState → ℕ
size s = size_of s.runs

-- It goes on to FIN, or has 2^62 bytes.
abbrev pub stop_at : Option ℕ → ℕ
stop_at None = 2 ^ 62
stop_at (Some e) = min e (2 ^ 62)

abbrev pub stop : StreamState → ℕ
stop s = stop_at s.end

-- ---- what is reported

-- the bytes that it names lie in a payload of this length
abbrev pub IsWithin : StreamStep → (len : ℕ) → Type 0
IsWithin (step.Payload from count) len = from + count ≤ len
IsWithin t len = ⊤

pub record Delivery : Type 0 where
  pub step : StreamStep
  pub state : StreamState

abbrev pub delivered : StreamStep → StreamState → Delivery
delivered t s = record { step = t; state = s }

-- at an end it has no bytes
abbrev pub ended : StreamState → StreamState
ended s = stream_state Over s.first s.position [] s.end

-- so many positions further, with these runs
abbrev pub moved : (n : ℕ) → List EarlyRun → StreamState → StreamState
moved n runs s = stream_state s.stage s.first (s.position + n) runs s.end

abbrev pub with_runs : List EarlyRun → StreamState → StreamState
with_runs runs s = stream_state s.stage s.first s.position runs s.end

-- a gap from the position on
abbrev pub lost : (n : ℕ) → StreamState → Delivery
lost n s = delivered (step.Gap n Lost None) (moved n s.runs s)

-- ---- what is settled: the end, and bytes that came early and are next

pub record Settling : Type 0 where
  pub step : Option StreamStep
  pub state : StreamState

abbrev pub settling : Option StreamStep → StreamState → Settling
settling t s = record { step = t; state = s }

-- how many of so many bytes from the position on lie before the end
abbrev pub up_to_stop : StreamState → ℕ → ℕ
up_to_stop s n = min n (stop s - s.position)

-- The first that came early is next: its bytes, or where it has none those that were not captured.
abbrev pub settled_by : Option RunSummary → StreamState → Settling
settled_by None s = settling None s
settled_by (Some r) s =
    if nat_lt 0 r.length then settling (Some (step.Held r.time r.begins)) s
    else settling (Some (step.Gap (up_to_stop s r.missing) Snapped r.time)) (moved (up_to_stop s r.missing) (behind_first s.runs) s)

abbrev pub settled : StreamState → Settling
settled s =
    if nat_le (stop s) s.position then settling (Some step.Ended) (ended s)
    else settled_by (summary_at s.position s.runs) s

abbrev pub or_step : Option StreamStep → StreamState → (otherwise : Delivery) → Delivery
or_step (Some t) s otherwise = delivered t s
or_step None s otherwise = otherwise

-- what is settled, or else this
abbrev pub or_else : StreamState → (otherwise : Delivery) → Delivery
or_else s otherwise = or_step (settled s).step (settled s).state otherwise

-- the bytes that came early and are next, and the stream after them
abbrev pub held : StreamState → List ℕ
held s = take (stop s - s.position) (bytes_at s.position s.runs)

abbrev pub passed_by : Option RunSummary → StreamState → StreamState
passed_by None s = s
passed_by (Some r) s =
    if nat_lt 0 r.length then moved (up_to_stop s r.length) (behind_first s.runs) s else s

abbrev pub passed : StreamState → StreamState
passed s = passed_by (summary_at s.position s.runs) s

-- ---- a segment

-- The first segment with SYN, FIN or bytes begins the stream.
abbrev pub begun : StreamState → Segment → Delivery
begun s g =
    if begins_stream g
    then delivered (step.Began g.control.syn) (stream_state Open (first_number g.control) 0 [] None)
    else delivered step.Done s

-- the first FIN stays
abbrev pub end_with : Option ℕ → (fin : Bool) → (to : ℕ) → Option ℕ
end_with (Some e) fin to = Some e
end_with None fin to = if fin then Some to else None

abbrev pub place_in : StreamState → Segment → Place
place_in s g = place s.first s.position g

abbrev pub with_end : (fin : Bool) → (to : ℕ) → StreamState → StreamState
with_end fin to s = stream_state s.stage s.first s.position s.runs (end_with s.end fin to)

-- A part of the segment that is next: its bytes, or those that were not captured.
abbrev pub next_bytes : (count : ℕ) → StreamState → Segment → Place → Part → Delivery
next_bytes count s g l p =
    if nat_lt 0 count then delivered (step.Payload l.skip count) (moved count s.runs s)
    else delivered (step.Gap (p.to - p.from) Snapped g.time) (moved (p.to - p.from) s.runs s)

abbrev pub next_part : StreamState → Segment → Place → Part → Delivery
next_part s g l p = next_bytes (min (length g.bytes - l.skip) (p.to - p.from)) s g l p

-- A part that came early is kept where there is room. Where there is none, the hole before the first that came early is lost.
abbrev pub early_bytes : Segment → Place → Part → List ℕ
early_bytes g l p = take (p.to - p.from) (drop (l.skip + (p.from - l.at)) g.bytes)

abbrev pub begins_at : Place → Part → Bool
begins_at l p = (l.skip == 0) && (p.from == l.at)

abbrev pub early_run_of : Segment → Place → Part → EarlyRun
early_run_of g l p = run_of p (early_bytes g l p) (begins_at l p) g.time

abbrev pub early_part : StreamState → Segment → Place → Part → (room : ℕ) → Delivery
early_part s g l p room =
    if nat_le (size s + length (early_bytes g l p) + 144) room
    then delivered step.Kept (with_runs (insert s.runs p.index (early_run_of g l p)) s)
    else lost (first_at p.from s.runs - s.position) s

-- the first part that no run covers, if there is one
abbrev pub placed : StreamState → Segment → Place → Part → (room : ℕ) → Delivery
placed s g l p room =
    if nat_le p.to p.from then delivered step.Done s
    else if p.from == s.position then next_part s g l p
    else early_part s g l p room

abbrev pub received_at : Place → StreamState → Segment → (room : ℕ) → Delivery
received_at l s g room = or_else s (placed s g l (first_free l.at (min l.to (stop s)) s.runs) room)

abbrev pub received : StreamState → Segment → (room : ℕ) → Delivery
received s g room = received_at (place_in s g) (with_end g.control.fin (place_in s g).to s) g room

-- RST ends it at once (RFC 9293, section 3.5.2), and what came early is not reported. After an end nothing is.
abbrev pub after_segment_at : Stage → StreamState → Segment → (room : ℕ) → Delivery
after_segment_at Over s g room = delivered step.Done s
after_segment_at Unseen s g room = if g.control.rst then delivered step.Reset (ended s) else begun s g
after_segment_at Open s g room =
    if g.control.rst then delivered step.Reset (ended s) else received s g room

abbrev pub after_segment : StreamState → Segment → (room : ℕ) → Delivery
after_segment s g room = after_segment_at s.stage s g room

-- what stays where memory is refused
abbrev pub after_refusal : StreamState → Segment → StreamState
after_refusal s g = with_end g.control.fin (place_in s g).to s

-- ---- an acknowledgement of the other side, and the last call

-- whether the end of a hole at the position is known: something came early, or FIN
abbrev pub knows_hole : StreamState → Bool
knows_hole s = nat_lt 0 (length s.runs) || is_some s.end

-- how long it is
abbrev pub hole : StreamState → ℕ
hole s = first_at (stop s) s.runs - s.position

-- whether the other side has acknowledged so many bytes from the next on (RFC 9293, section 3.4: SEG.ACK is the number that
-- it wants next)
abbrev pub is_acknowledged : Distance → ℕ → Bool
is_acknowledged (Ahead k) n = nat_le n k
is_acknowledged (Behind k) n = false

abbrev pub is_lost : StreamState → (number : ℕ) → Bool
is_lost s number =
    knows_hole s && is_acknowledged (distance (next_number s.first s.position) number) (hole s)

abbrev pub lost_or_done : Bool → StreamState → Delivery
lost_or_done is s = if is then lost (hole s) s else delivered step.Done s

abbrev pub after_acknowledgement_at : Stage → StreamState → (number : ℕ) → Delivery
after_acknowledgement_at Over s number = delivered step.Done s
after_acknowledgement_at Unseen s number = delivered step.Done s
after_acknowledgement_at Open s number = or_else s (lost_or_done (is_lost s number) s)

abbrev pub after_acknowledgement : StreamState → (number : ℕ) → Delivery
after_acknowledgement s number = after_acknowledgement_at s.stage s number

-- no more segments come, so that each hole that is known is a gap
abbrev pub after_close_at : Stage → StreamState → Delivery
after_close_at Over s = delivered step.Done s
after_close_at Unseen s = delivered step.Done s
after_close_at Open s = or_else s (lost_or_done (knows_hole s) s)

abbrev pub after_close : StreamState → Delivery
after_close s = after_close_at s.stage s
