-- What listens to the events of the connections of a capture, and writes the pages of one of them.
use Rattle.std.specs.Prelude.{◌≡◌, ℕ, ◌==◌, true, false, List, [], Result, Ok, Err, if◌then◌else◌}
use Rattle.cqlp_tcp_connections.specs.declared.ends.Way.{Way}
use Rattle.cqlp_tcp_connections.specs.declared.ends.Way.TheVariants.{Requests as ByClient, Responses as ByNode}
use Rattle.cqlp_tcp_connections.specs.declared.delivery.Delivery.{Delivery}
use Rattle.cqlp_text.specs.Outputs.{Output, StopsWithin, with_text}
use Rattle.cqlp_capture_streams.specs.declared.fault.StreamsFault.{StreamsFault}
use Rattle.cqlp_capture_streams.specs.declared.fault.StreamsFault.TheVariants as fault
use Rattle.cqlp_capture_streams.specs.ConnectionEvents.{ConnectionEvent, Packet, New, Of, Left}
use Rattle.cqlp_statement_types.specs.Types.{Given}
use Rattle.cqlp_capture_prepared.specs.declared.requests.Requests.{Requests}
use Rattle.cqlp_capture_prepared.specs.Keeping.{new_keeping}
use Rattle.cqlp_capture_prepared.specs.Requests.{Asked, asked, silent, step_asked}
use Rattle.cqlp_capture_frames.specs.declared.fault.ReportFault.{ReportFault}
use Rattle.cqlp_capture_frames.specs.declared.fault.ReportFault.TheVariants as why
use Rattle.cqlp_capture_rows.specs.declared.limits.TheConstants.{EXECUTES, STATEMENTS}
use Rattle.cqlp_capture_frames.specs.Reportings.{WritesFront}
use Rattle.cqlp_capture_frames.specs.Directions.{Direction, Reporting, begun, closes, step_reported}
use Rattle.cqlp_capture_rows.specs.Responses.{Responses, new_responses, page_manner, rules, with_known, with_others}
use Rattle.cqlp_capture_rows.specs.OtherConnections.{OtherConnections, Overheard, begins, no_connections, overhears}
use Rattle.cqlp_capture_rows.specs.OtherConnections as other

-- The number of the connection that is asked for, its requests, where its responses are, what is known of them, the other connections, and the
-- output.
pub record Listening : Type 0 where
  pub asked : ℕ
  pub requests : Requests
  pub direction : Direction
  pub responses : Responses
  pub others : OtherConnections
  pub output : Output

abbrev pub listening : ℕ → Requests → Direction → Responses → OtherConnections → Output → Listening
listening asked requests direction responses others output =
    record { asked = asked; requests = requests; direction = direction; responses = responses; others = others; output = output }

abbrev pub new_listening : Given → (asked : ℕ) → Output → Listening
new_listening given asked out =
    listening asked (silent false) (begun rules true false) (new_responses given asked (new_keeping STATEMENTS EXECUTES)) no_connections out

-- ---- what an event of a connection does: the text, and the requests, the responses and the other connections after it

pub record Change : Type 0 where
  pub text : List ℕ
  pub requests : Requests
  pub direction : Direction
  pub responses : Responses
  pub others : OtherConnections

abbrev pub change : List ℕ → Requests → Direction → Responses → OtherConnections → Change
change text requests direction responses others =
    record { text = text; requests = requests; direction = direction; responses = responses; others = others }

-- Of requests nothing is written.
abbrev pub hears_requests : Asked → Listening → Change
hears_requests a w = change [] a.requests w.direction (with_known a.known w.responses) w.others

abbrev pub hears_responses : Reporting Responses → Listening → Change
hears_responses x w = change x.text w.requests x.after x.known w.others

abbrev pub heard_of : Way → Delivery → List ℕ → Listening → Change
heard_of ByClient t b w = hears_requests (step_asked t.step b (asked w.requests w.responses.known)) w
heard_of ByNode t b w = hears_responses (step_reported page_manner true t.step t.at b w.responses w.direction) w

abbrev pub heard : Delivery → List ℕ → Listening → Change
heard t b w = heard_of t.way t b w

-- No more comes.
abbrev pub leaves : Listening → Change
leaves w = hears_responses (closes page_manner w.direction.frame w.responses w.direction) w

-- ---- of another connection nothing is written, and its requests say nothing

abbrev pub with_connections : OtherConnections → Listening → Change
with_connections others w = change [] w.requests w.direction w.responses others

abbrev pub overhears_responses : Overheard → Listening → Change
overhears_responses x w = change [] w.requests w.direction (with_others x.others w.responses) x.connections

abbrev pub overheard_of : Way → Delivery → List ℕ → Listening → Change
overheard_of ByClient t b w = with_connections w.others w
overheard_of ByNode t b w = overhears_responses (overhears t.number t.step b w.others w.responses.others) w

abbrev pub overheard : Delivery → List ℕ → Listening → Change
overheard t b w = overheard_of t.way t b w

abbrev pub if_asked : (number : ℕ) → (own other : Change) → Listening → Change
if_asked number own other w = if number == w.asked then own else other

abbrev pub change_of : ConnectionEvent → Listening → Change
change_of (Packet time) w = with_connections w.others w
change_of (New n) w = if_asked n (with_connections w.others w) (with_connections (begins n w.others) w) w
change_of (Of delivered bytes) w = if_asked delivered.number (heard delivered bytes w) (overheard delivered bytes w) w
change_of (Left totals) w = if_asked totals.number (leaves w) (with_connections (other.leaves totals.number w.others) w) w

abbrev pub after_change : Change → Listening → Listening
after_change x w = listening w.asked x.requests x.direction x.responses x.others (with_text w.output x.text)

abbrev pub with_connection_event : Listening → ConnectionEvent → Listening
with_connection_event w s = after_change (change_of s w) w

-- ---- a fault: the output failed within the text, or memory was refused, and the text was written up to there

abbrev pub Breaks : Listening → Change → StreamsFault → Listening → Type 0
Breaks old x fault.Write new = StopsWithin old.output x.text new.output
Breaks old x fault.NoMemory new = WritesFront old.output x.text new.output
Breaks old x e new = ⊥

abbrev pub StopsAt : Listening → ConnectionEvent → StreamsFault → Listening → Type 0
StopsAt old s e new = Breaks old (change_of s old) e new

-- The text of a change was written, or it was written up to a fault.
abbrev pub Changes : Listening → Change → Result (Unit {0}) StreamsFault → Listening → Type 0
Changes old x (Ok u) new = new ≡ after_change x old
Changes old x (Err e) new = Breaks old x e new

abbrev pub Hears : Listening → ConnectionEvent → Result (Unit {0}) StreamsFault → Listening → Type 0
Hears old s r new = Changes old (change_of s old) r new

-- ---- what it answers where its text was put so

abbrev pub answer_of : Result (Unit {0}) ReportFault → Result (Unit {0}) StreamsFault
answer_of (Ok u) = Ok u
answer_of (Err why.Write) = Err fault.Write
answer_of (Err why.NoMemory) = Err fault.NoMemory
