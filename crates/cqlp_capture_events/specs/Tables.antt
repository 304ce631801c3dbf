-- The connections that are watched, by their numbers, the newest first.
use Rattle.std.specs.Prelude.{◌≡◌, ℕ, ◌+◌, ◌-◌, ◌||◌, nat_lt, Bool, true, false, List, [], Option, Some, None, is_some, if◌then◌else◌}
use Rattle.std.specs.BTreeMap.{insert_entry, is_at}
use Rattle.std.specs.Map.{lookup, remove_entry, set_value}
use Rattle.std.specs.Ordering.{nat_cmp}
use Rattle.cqlp_note.specs.Streams.{counted_up}
use Rattle.cqlp_tcp_connections.specs.declared.ends.Way.{Way}
use Rattle.cqlp_tcp_connections.specs.declared.ends.Way.TheVariants.{Requests, Responses}
use Rattle.cqlp_tcp_connections.specs.declared.delivery.Delivery.{Delivery}
use Rattle.cqlp_capture_streams.specs.NewestFirst.{newest_first}
use Rattle.cqlp_capture_frames.specs.Directions.{Direction, Reporting, begun, step_reported}
use Rattle.cqlp_capture_events.specs.declared.limits.TheConstants.{OPEN_FRAMES}
use Rattle.cqlp_capture_events.specs.declared.lines.Lines.{Lines}
use Rattle.cqlp_capture_events.specs.Lines.{line_manner, lines_of, rules}

-- ---- one connection: its two directions

pub record Slot : Type 0 where
  pub requests : Direction
  pub responses : Direction

abbrev pub slot : (requests responses : Direction) → Slot
slot requests responses = record { requests = requests; responses = responses }

-- a connection of which nothing came
abbrev pub fresh : Slot
fresh = slot (begun rules false false) (begun rules true false)

-- Both are read by the limits.
pub record IsSlot (requests responses : Direction) : Type 0 where
  pub rules_of_requests : requests.rules ≡ rules
  pub rules_of_responses : responses.rules ≡ rules
  pub requests_go : requests.responses ≡ false
  pub responses_go : responses.responses ≡ true

-- how many of its directions read a frame
abbrev pub one_if : Bool → ℕ
one_if b = if b then 1 else 0

abbrev pub open_in : Slot → ℕ
open_in s = one_if (is_some s.requests.frame) + one_if (is_some s.responses.frame)

-- what one direction of a connection delivers
pub record Heard : Type 0 where
  pub text : List ℕ
  pub slot : Slot
  pub unread : ℕ

abbrev pub of_requests : Reporting Lines → Slot → Heard
of_requests t s = record { text = t.text; slot = slot t.after s.responses; unread = t.known.unread }

abbrev pub of_responses : Reporting Lines → Slot → Heard
of_responses t s = record { text = t.text; slot = slot s.requests t.after; unread = t.known.unread }

-- Where there is no room for one more decoder, only a direction that reads a frame reads others.
abbrev pub heard_of : Way → (room : Bool) → Delivery → List ℕ → (unread : ℕ) → Slot → Heard
heard_of Requests room t b unread s =
    of_requests (step_reported line_manner (room || is_some s.requests.frame) t.step t.at b (lines_of t.number false unread) s.requests) s
heard_of Responses room t b unread s =
    of_responses (step_reported line_manner (room || is_some s.responses.frame) t.step t.at b (lines_of t.number true unread) s.responses) s

abbrev pub heard : (room : Bool) → Delivery → List ℕ → (unread : ℕ) → Slot → Heard
heard room t b unread s = heard_of t.way room t b unread s

-- ---- all of them: the connections, the one with the greatest number first; how many directions read a frame; and how many frames were not read

pub record Table : Type 0 where
  pub slots : List (ℕ × Slot)
  pub reading : ℕ
  pub unread : ℕ

abbrev pub table : List (ℕ × Slot) → (reading unread : ℕ) → Table
table slots reading unread = record { slots = slots; reading = reading; unread = unread }

abbrev pub new_table : Table
new_table = table [] 0 0

abbrev pub slot_of : (number : ℕ) → Table → Option Slot
slot_of n w = lookup (is_at (nat_cmp (newest_first n))) w.slots

-- of a connection `before` directions read a frame, and `now` they do
abbrev pub reading_after : (before now : ℕ) → (reading : ℕ) → ℕ
reading_after before now reading = counted_up now (reading - before)

-- the lines of an event, and the table after it
pub record Change : Type 0 where
  pub text : List ℕ
  pub table : Table

abbrev pub change : List ℕ → Table → Change
change text w = record { text = text; table = w }

-- a connection begins
abbrev pub begins : (number : ℕ) → Table → Table
begins n w = table (insert_entry nat_cmp w.slots (newest_first n) fresh) w.reading w.unread

-- its streams deliver something; where it is not watched, there is no line
abbrev pub becomes : (number : ℕ) → Slot → Heard → Table → Change
becomes n s h w =
    change h.text (table (set_value (is_at (nat_cmp (newest_first n))) w.slots h.slot) (reading_after (open_in s) (open_in h.slot) w.reading) h.unread)

abbrev pub reports_at : Option Slot → Delivery → List ℕ → Table → Change
reports_at None t b w = change [] w
reports_at (Some s) t b w = becomes t.number s (heard (nat_lt w.reading OPEN_FRAMES) t b w.unread s) w

abbrev pub reports : Delivery → List ℕ → Table → Change
reports t b w = reports_at (slot_of t.number w) t b w

-- it leaves
abbrev pub leaves_at : Option Slot → (number : ℕ) → Table → Table
leaves_at None n w = w
leaves_at (Some s) n w = table (remove_entry (is_at (nat_cmp (newest_first n))) w.slots) (reading_after (open_in s) 0 w.reading) w.unread

abbrev pub leaves : (number : ℕ) → Table → Table
leaves n w = leaves_at (slot_of n w) n w
