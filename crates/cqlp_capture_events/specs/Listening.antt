-- What listens to the events of the connections of a capture, and writes the lines of their frames.
use Rattle.std.specs.Prelude.{◌≡◌, ℕ, ◌==◌, Bool, true, List, [], Option, Some, None, if◌then◌else◌, Result, Ok, Err}
use Rattle.cqlp_tcp_connections.specs.declared.delivery.Delivery.{Delivery}
use Rattle.cqlp_text.specs.Outputs.{Output, StopsWithin, with_text}
use Rattle.cqlp_capture_streams.specs.declared.fault.StreamsFault.{StreamsFault}
use Rattle.cqlp_capture_streams.specs.declared.fault.StreamsFault.TheVariants as fault
use Rattle.cqlp_capture_streams.specs.ConnectionEvents.{ConnectionEvent, Packet, New, Of, Left}
use Rattle.cqlp_capture_frames.specs.declared.fault.ReportFault.{ReportFault}
use Rattle.cqlp_capture_frames.specs.Reportings.{Faults, WritesFront}
use Rattle.cqlp_capture_events.specs.Tables.{Change, Table, begins, change, leaves, new_table, reports}

-- which connection is asked for, if only one is, those that are watched, and the output
pub record Listening : Type 0 where
  pub asked : Option ℕ
  pub table : Table
  pub output : Output

abbrev pub listening : Option ℕ → Table → Output → Listening
listening asked table output = record { asked = asked; table = table; output = output }

abbrev pub new_listening : (asked : Option ℕ) → Output → Listening
new_listening asked out = listening asked new_table out

abbrev pub is_asked : Option ℕ → ℕ → Bool
is_asked None n = true
is_asked (Some m) n = m == n

-- ---- what an event of a connection does: the lines, and the connections after it

abbrev pub change_of : ConnectionEvent → Listening → Change
change_of (Packet time) w = change [] w.table
change_of (New n) w = change [] (if is_asked w.asked n then begins n w.table else w.table)
change_of (Of delivered bytes) w = reports delivered bytes w.table
change_of (Left totals) w = change [] (leaves totals.number w.table)

abbrev pub after_change : Change → Listening → Listening
after_change x w = listening w.asked x.table (with_text w.output x.text)

abbrev pub with_connection_event : Listening → ConnectionEvent → Listening
with_connection_event w s = after_change (change_of s w) w

-- ---- a fault: the output failed within the lines, or memory was refused, and the lines were written up to there

abbrev pub StopsAt : Listening → ConnectionEvent → StreamsFault → Listening → Type 0
StopsAt old s fault.Write new = StopsWithin old.output (change_of s old).text new.output
StopsAt old s fault.NoMemory new = WritesFront old.output (change_of s old).text new.output
StopsAt old s e new = ⊥

abbrev pub Hears : Listening → ConnectionEvent → Result (Unit {0}) StreamsFault → Listening → Type 0
Hears old s (Ok u) new = new ≡ with_connection_event old s
Hears old s (Err e) new = StopsAt old s e new

-- the same of lines of what one direction delivers
abbrev pub Reports : Listening → Delivery → List ℕ → Result (Unit {0}) ReportFault → Listening → Type 0
Reports old delivered bytes (Ok u) new = new ≡ with_connection_event old (Of delivered bytes)
Reports old delivered bytes (Err e) new = Faults old.output (reports delivered bytes old.table).text e new.output
