-- What is recorded of events: the calls of files, lines, and sums.
use Rattle.std.specs.Prelude.{◌≡◌, ℕ, List, Option, Some, None, IsSome, Result, Ok, Err}
use Rattle.cqlp_text.specs.Outputs.{Output, with_text, StopsWithin}
use Rattle.cqlp_tcp_reassembly.specs.declared.step.StreamStep.{StreamStep}
use Rattle.cqlp_tcp_reassembly.specs.declared.step.StreamStep.TheVariants as step
use Rattle.cqlp_tcp_connections.specs.declared.delivery.Delivery.{Delivery}
use Rattle.cqlp_tcp_connections.specs.declared.totals.DirectionTotals.{DirectionTotals}
use Rattle.cqlp_tcp_connections.specs.Totals.{counted}
use Rattle.cqlp_capture_streams.specs.declared.fault.StreamsFault.{StreamsFault}
use Rattle.cqlp_capture_streams.specs.declared.fault.StreamsFault.TheVariants as fault
use Rattle.cqlp_capture_streams.specs.declared.files.FileFault.{FileFault}
use Rattle.cqlp_capture_streams.specs.declared.files.StreamFile.{StreamFile}
use Rattle.cqlp_capture_streams.specs.declared.recorder.Sums.{Sums}
use Rattle.cqlp_capture_streams.specs.Files.{Call, Made, Appended, Kept, Failed, with_call}
use Rattle.cqlp_capture_streams.specs.Lines.{connection_line, gap_line}
use Rattle.cqlp_capture_streams.specs.ConnectionEvents.{ConnectionEvent, Packet, New, Of, Left}
use Rattle.cqlp_capture_streams.specs.Listening.{after_all}

pub record Recording : Type 0 where
  pub calls : Option (List Call)
  pub output : Output
  pub sums : Sums

abbrev pub recording : Option (List Call) → Output → Sums → Recording
recording calls output sums = record { calls = calls; output = output; sums = sums }

abbrev pub no_sums : Sums
no_sums = record { gaps = 0; bytes = 0 }

abbrev pub with_output : Output → Recording → Recording
with_output o r = recording r.calls o r.sums

-- A line was put, or the output failed within it.
abbrev pub Puts : (line : List ℕ) → Output → Result (Unit {0}) StreamsFault → Output → Type 0
Puts line old (Ok u) new = new ≡ with_text old line
Puts line old (Err fault.Write) new = StopsWithin old line new
Puts line old (Err e) new = ⊥

-- ---- an event becomes one call or none, and one line or none

abbrev pub file_of : Delivery → StreamFile
file_of t = record { number = t.number; way = t.way }

abbrev pub call_of_step : StreamStep → StreamFile → List ℕ → Option Call
call_of_step (step.Payload from count) file bytes = Some (Appended file bytes)
call_of_step (step.Held time begins) file bytes = Some (Appended file bytes)
call_of_step t file bytes = None

abbrev pub call_of : ConnectionEvent → Option Call
call_of (Packet time) = None
call_of (New n) = Some (Made n)
call_of (Of delivered bytes) = call_of_step delivered.step (file_of delivered) bytes
call_of (Left totals) = Some (Kept totals.number)

abbrev pub line_of_step : StreamStep → StreamFile → (at : ℕ) → Option (List ℕ)
line_of_step (step.Gap n cause time) file at = Some (gap_line file at n cause)
line_of_step t file at = None

abbrev pub line_of : ConnectionEvent → Option (List ℕ)
line_of (Packet time) = None
line_of (New n) = None
line_of (Of delivered bytes) = line_of_step delivered.step (file_of delivered) delivered.at
line_of (Left totals) = Some (connection_line totals)

abbrev pub summed : DirectionTotals → Sums → Sums
summed d s = record { gaps = counted (counted s.gaps d.gaps) d.snapped; bytes = counted s.bytes d.bytes }

abbrev pub sums_with : ConnectionEvent → Sums → Sums
sums_with (Left totals) s = summed totals.responses (summed totals.requests s)
sums_with x s = s

-- first the call,
abbrev pub called : Option Call → Option (List Call) → Option (List Call)
called None calls = calls
called (Some call) calls = with_call calls call

abbrev pub with_call_of : Recording → ConnectionEvent → Recording
with_call_of r s = recording (called (call_of s) r.calls) r.output (sums_with s r.sums)

-- and then the line
abbrev pub lined : Option (List ℕ) → Output → Output
lined None o = o
lined (Some line) o = with_text o line

abbrev pub with_connection_event : Recording → ConnectionEvent → Recording
with_connection_event r s = recording (called (call_of s) r.calls) (lined (line_of s) r.output) (sums_with s r.sums)

-- all of them, in order
abbrev pub with_connection_events : Recording → List ConnectionEvent → Recording
with_connection_events r ss = after_all with_connection_event r ss

-- ---- a fault

-- the output failed within the line
abbrev pub StopsWithinLine : Option (List ℕ) → (old new : Output) → Type 0
StopsWithinLine None old new = ⊥
StopsWithinLine (Some line) old new = StopsWithin old line new

-- The line is made in memory: that of a connection that has left.
abbrev pub NeedsMemory : ConnectionEvent → Type 0
NeedsMemory (Left totals) = Unit {0}
NeedsMemory s = ⊥

-- one call failed
abbrev pub with_failure : FileFault → Recording → Recording
with_failure e r = recording (with_call r.calls (Failed e)) r.output r.sums

-- The call failed, no other call was made, and nothing else was recorded; or the call was made, and there was no memory for a line that is
-- made in memory, or the output failed within the line.
abbrev pub StopsAt : Recording → ConnectionEvent → StreamsFault → Recording → Type 0
StopsAt old s (fault.File e) new = IsSome (call_of s) × (new ≡ with_failure e old)
StopsAt old s fault.NoMemory new = NeedsMemory s × (new ≡ with_call_of old s)
StopsAt old s fault.Write new =
    (new ≡ with_output new.output (with_call_of old s)) × StopsWithinLine (line_of s) old.output new.output
StopsAt old s e new = ⊥

abbrev pub Records : Recording → ConnectionEvent → Result (Unit {0}) StreamsFault → Recording → Type 0
Records old s (Ok u) new = new ≡ with_connection_event old s
Records old s (Err e) new = StopsAt old s e new
