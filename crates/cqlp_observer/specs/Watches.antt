-- Both sides of one connection, and the messages that wait.
use Rattle.std.specs.Prelude.{ℕ, ◌+◌, ◌-◌, ◌&&◌, Bool, true, false, List, length, nat_le, nat_lt, Option, Some, None, if◌then◌else◌}
use Rattle.cqlp_observer.specs.declared.message.Message.{Message}
use Rattle.cqlp_observer.specs.declared.paired.Paired.{Paired}
use Rattle.cqlp_observer.specs.declared.paired.Paired.TheVariants.{Exchange, Unanswered, Unasked, Event}
use Rattle.cqlp_observer.specs.declared.pairing.Fate.{Fate}
use Rattle.cqlp_observer.specs.declared.pairing.Fate.TheVariants as fate_is
use Rattle.cqlp_observer.specs.declared.missed.Missed.{Missed}
use Rattle.cqlp_observer.specs.declared.opening.Opening.{Opening}
use Rattle.cqlp_observer.specs.declared.room.WatchRoom.{WatchRoom}
use Rattle.cqlp_observer.specs.declared.watch.WatchProgress.{WatchProgress}
use Rattle.cqlp_observer.specs.declared.watch.WatchStep.{WatchStep}
use Rattle.cqlp_observer.specs.declared.side.SideStep.{SideStep}
use Rattle.cqlp_observer.specs.Keeping.{Kept, bare_kept, cost_of}
use Rattle.cqlp_observer.specs.Messages.{id_of}
use Rattle.cqlp_observer.specs.Misses.{none_missed, with_gap, with_opening, with_overtaken, with_text}
use Rattle.cqlp_observer.specs.Openings.{opening_in}
use Rattle.cqlp_observer.specs.Pairings.{Pairs, Waiting, fate_of, none_wait, under}
use Rattle.cqlp_observer.specs.Pairings as pairing
use Rattle.cqlp_observer.specs.Speakers as side
use Rattle.cqlp_observer.specs.Speakers.{Endings, Hears, Speaker, silent}

-- Its two sides, the messages that wait, how much room the texts take of these and of those that pass, and what was missed.
pub record Watched : Type 0 where
  pub requests : Speaker
  pub responses : Speaker
  pub waiting : Waiting Kept
  pub text : ℕ
  pub missed : Missed

abbrev pub watched : (requests responses : Speaker) → Waiting Kept → (text : ℕ) → Missed → Watched
watched requests responses waiting text missed = record {
  requests = requests;
  responses = responses;
  waiting = waiting;
  text = text;
  missed = missed;
}

-- nothing was seen
abbrev pub new_watched : Watched
new_watched = watched (silent false false) (silent true false) none_wait 0 none_missed

abbrev pub side_of : (responses : Bool) → Watched → Speaker
side_of responses w = if responses then w.responses else w.requests

abbrev pub with_side : (responses : Bool) → Speaker → Watched → Watched
with_side true s w = watched w.requests s w.waiting w.text w.missed
with_side false s w = watched s w.responses w.waiting w.text w.missed

abbrev pub with_missed : Missed → Watched → Watched
with_missed m w = watched w.requests w.responses w.waiting w.text m

abbrev pub with_count : (text : ℕ) → Watched → Watched
with_count text w = watched w.requests w.responses w.waiting text w.missed

-- ---- texts of messages that pass: each side has room for one

abbrev pub is_keeping_on : (responses : Bool) → Watched → Bool
is_keeping_on responses w = side.is_keeping (side_of responses w)

abbrev pub has_text_room : WatchRoom → Watched → Bool
has_text_room room w = nat_le 832 (room.text - w.text)

-- how much room the texts take, where a side kept one before or not, and keeps one after or not
abbrev pub recounted : (room text : ℕ) → (before after : Bool) → ℕ
recounted room text before after =
    if before then (if after then text else text - 832)
    else if after && nat_le 832 (room - text) then text + 832
    else text

abbrev pub with_recount : (responses : Bool) → WatchRoom → (before : Bool) → Watched → Watched
with_recount responses room before w = with_count (recounted room.text w.text before (is_keeping_on responses w)) w

-- with one side changed
abbrev pub changed : (responses : Bool) → Speaker → WatchRoom → Watched → Watched
changed responses s room w = with_recount responses room (is_keeping_on responses w) (with_side responses s w)

abbrev pub begun : (responses from_start : Bool) → Watched → Watched
begun responses from_start w =
    with_count (recounted 0 w.text (is_keeping_on responses w) false) (with_side responses (silent responses from_start) w)

-- ---- texts of messages that wait

abbrev pub text_in : Option (Message Kept) → ℕ
text_in None = 0
text_in (Some m) = cost_of m.kept

-- how much room is taken but for the one under a message's id
abbrev pub text_beside : Message Kept → Watched → ℕ
text_beside m w = w.text - text_in (under (id_of m) w.waiting)

-- a message as it waits, and the connection then
pub record Fits : Type 0 where
  pub message : Message Kept
  pub after : Watched

abbrev pub fitting : Message Kept → Watched → Fits
fitting m w = record { message = m; after = w }

abbrev pub bare : Message Kept → Message Kept
bare m = record { frame = m.frame; kept = bare_kept }

abbrev pub bare_if : (is_bare : Bool) → Message Kept → Message Kept
bare_if true m = bare m
bare_if false m = m

-- with its text, if there is room for it beside so much else, or without it
abbrev pub fitted : Message Kept → (beside : ℕ) → WatchRoom → Watched → Fits
fitted m beside room w =
    if nat_le (cost_of m.kept) (room.text - beside) then fitting m (with_count (beside + cost_of m.kept) w)
    else fitting (bare m) (with_count beside (with_missed (with_text w.missed) w))

-- ---- a message that has ended is paired: what is reported, and the connection after it

pub record Reporting : Type 0 where
  pub reported : Option (Paired Kept)
  pub after : Watched

abbrev pub report_then : Option (Paired Kept) → Watched → Reporting
report_then reported w = record { reported = reported; after = w }

abbrev pub paired_by : Pairs Kept → Watched → Reporting
paired_by p w = report_then p.reported (watched w.requests w.responses p.after w.text w.missed)

abbrev pub taken_by : (has_room : Bool) → Fits → Reporting
taken_by has_room x = paired_by (pairing.taken x.message has_room x.after.waiting) x.after

-- As it waits, if it does; one for which there is no room is counted.
abbrev pub fitted_as : Fate → Message Kept → WatchRoom → Watched → Fits
fitted_as fate_is.IsReported m room w = fitting m w
fitted_as fate_is.Meets m room w = fitting m (with_count (text_beside m w) w)
fitted_as fate_is.Waits m room w = fitted m (text_beside m w) room w
fitted_as fate_is.IsOvertaken m room w = fitting m (with_missed (with_overtaken w.missed) w)

abbrev pub settled : Message Kept → (has_room : Bool) → WatchRoom → Watched → Fits
settled m has_room room w = fitted_as (fate_of (under (id_of m) w.waiting) m has_room) m room w

abbrev pub has_room : WatchRoom → Watched → Bool
has_room room w = nat_lt (length w.waiting) room.messages

abbrev pub paired_if : Option (Message Kept) → WatchRoom → Watched → Reporting
paired_if None room w = report_then None w
paired_if (Some m) room w = taken_by (has_room room w) (settled m (has_room room w) room w)

abbrev pub ended_by : (responses : Bool) → Endings → WatchRoom → Watched → Reporting
ended_by responses e room w = paired_if e.message room (changed responses e.after room w)

abbrev pub after_gap : (responses : Bool) → ℕ → (time : Option ℕ) → WatchRoom → Watched → Reporting
after_gap responses n time room w =
    ended_by responses (side.after_gap n time (side_of responses w)) room (with_missed (with_gap w.missed) w)

abbrev pub after_end : (responses : Bool) → WatchRoom → Watched → Reporting
after_end responses room w = ended_by responses (side.after_end (side_of responses w)) room w

-- ---- bytes of a piece

pub record Steps : Type 0 where
  pub used : ℕ
  pub is_done : Bool
  pub opening : Opening
  pub reported : Option (Paired Kept)
  pub after : Watched

abbrev pub stepping : {A : Type 0} → WatchStep A → Watched → Steps
stepping step w = record { used = step.used; is_done = step.is_done; opening = step.opening; reported = step.reported; after = w }

abbrev pub progressing : WatchProgress → Option (Paired Kept) → Watched → Steps
progressing step reported w = record { used = step.used; is_done = step.is_done; opening = step.opening; reported = reported; after = w }

abbrev pub reported_by : ℕ → (is_done : Bool) → Opening → Reporting → Steps
reported_by used is_done opening t = record { used = used; is_done = is_done; opening = opening; reported = t.reported; after = t.after }

abbrev pub opening_of : (responses : Bool) → List ℕ → Watched → Opening
opening_of responses b w = opening_in b (side_of responses w).heads

abbrev pub opened : Opening → Watched → Watched
opened opening w = with_missed (with_opening opening w.missed) w

-- what the bytes say, before a message that ends with them is paired
pub record Reads : Type 0 where
  pub used : ℕ
  pub is_done : Bool
  pub message : Option (Message Kept)
  pub is_bare : Bool
  pub after : Watched

abbrev pub reads : ℕ → (is_done : Bool) → Option (Message Kept) → (is_bare : Bool) → Watched → Reads
reads used is_done m is_bare w = record { used = used; is_done = is_done; message = m; is_bare = is_bare; after = w }

abbrev pub reading : SideStep → Option (Message Kept) → Watched → Reads
reading step m w = reads step.used step.is_done m step.is_bare w

-- A message of which there is no room to keep more than the header is counted.
abbrev pub with_bare : (is_bare : Bool) → Watched → Watched
with_bare is_bare w = if is_bare then with_missed (with_text w.missed) w else w

abbrev pub read_by : (responses : Bool) → Hears → WatchRoom → Watched → Reads
read_by responses h room w = reads h.used h.is_done h.message h.is_bare (with_bare h.is_bare (changed responses h.after room w))

abbrev pub read : (responses : Bool) → (time : Option ℕ) → (begins : Bool) → List ℕ → WatchRoom → Watched → Reads
read responses time begins b room w =
    read_by responses (side.heard time begins b (has_text_room room w) (side_of responses w)) room w

abbrev pub heard_by : Opening → Reads → WatchRoom → Steps
heard_by opening r room = reported_by r.used r.is_done opening (paired_if r.message room r.after)

abbrev pub heard : (responses : Bool) → (time : Option ℕ) → (begins : Bool) → List ℕ → WatchRoom → Watched → Steps
heard responses time begins b room w =
    let opening = opening_of responses b w in
    heard_by opening (read responses time begins b room (opened opening w)) room

-- ---- the end of the connection: the message under the least id

-- the text of a message that is reported alone
abbrev pub alone_text : Paired Kept → ℕ
alone_text (Exchange request response) = 0
alone_text (Unanswered request) = cost_of request.kept
alone_text (Unasked response) = cost_of response.kept
alone_text (Event event) = 0

abbrev pub reported_text : Option (Paired Kept) → ℕ
reported_text None = 0
reported_text (Some t) = alone_text t

abbrev pub finished : Watched → Reporting
finished w = let p = pairing.ended w.waiting in paired_by p (with_count (w.text - reported_text p.reported) w)
