-- What is reported of a connection, by what its streams deliver.
use Rattle.std.specs.Prelude.{ℕ, zero, suc, ◌+◌, ◌*◌, ◌==◌, ◌&&◌, ◌||◌, Bool, true, false, List, [], ◌++◌, map, length, drop, Option, Some, None, if◌then◌else◌}
use Rattle.cqlp_tcp_reassembly.specs.declared.step.StreamStep.{StreamStep}
use Rattle.cqlp_tcp_reassembly.specs.declared.step.StreamStep.TheVariants as step
use Rattle.cqlp_tcp_connections.specs.declared.ends.Way.{Way}
use Rattle.cqlp_tcp_connections.specs.declared.ends.Way.TheVariants.{Requests, Responses}
use Rattle.cqlp_tcp_connections.specs.declared.delivery.Delivery.{Delivery}
use Rattle.cqlp_observer.specs.declared.room.WatchRoom.{WatchRoom}
use Rattle.cqlp_observer.specs.Keeping.{Kept}
use Rattle.cqlp_observer.specs.Pairings.{Waiting, alone}
use Rattle.cqlp_observer.specs.Watches.{Steps, Reporting, Watched, after_end, after_gap, begun, heard, new_watched}
use Rattle.cqlp_capture_exchanges.specs.declared.report.ConnectionEnd.{ConnectionEnd}
use Rattle.cqlp_capture_exchanges.specs.Reports.{Report, Messages, is_unread, messages, of_step}

-- what is watched of a connection, and whether it was reported that it is not read
pub record Slot : Type 0 where
  pub watch : Watched
  pub is_reported : Bool

abbrev pub slot : Watched → (is_reported : Bool) → Slot
slot w is_reported = record { watch = w; is_reported = is_reported }

-- nothing was seen of it
abbrev pub new_slot : Slot
new_slot = slot new_watched false

-- what is reported, in order, and the connection after it
pub record Talk : Type 0 where
  pub reports : List Report
  pub after : Slot

abbrev pub talk : List Report → Slot → Talk
talk reports s = record { reports = reports; after = s }

abbrev pub before : List Report → Talk → Talk
before reports t = talk (reports ++ t.reports) t.after

abbrev pub talk_of : Reporting → Slot → Talk
talk_of t s = talk (messages None t.reported) (slot t.after s.is_reported)

-- ---- bytes, step by step, where so much may wait. Their first one begins a segment or not.

abbrev pub stepped : Steps → Slot → Slot
stepped x s = slot x.after (s.is_reported || is_unread x.opening)

abbrev pub all_heard : (steps : ℕ) → (responses : Bool) → (time : Option ℕ) → (begins : Bool) → WatchRoom → List ℕ → Slot → Talk
all_heard zero responses time begins room b s = talk [] s
all_heard (suc n) responses time begins room b s =
    let x = heard responses time begins b room s.watch in
    let reports = of_step time s.is_reported x in
    if x.is_done then talk reports (stepped x s)
    else before reports (all_heard n responses time (begins && x.used == 0) room (drop x.used b) (stepped x s))

-- as many steps as they can take: each uses some byte, or ends a frame
abbrev pub steps_for : List ℕ → ℕ
steps_for b = 2 * length b + 2

abbrev pub bytes_heard : (responses : Bool) → (time : Option ℕ) → (begins : Bool) → WatchRoom → List ℕ → Slot → Talk
bytes_heard responses time begins room b s = all_heard (steps_for b) responses time begins room b s

-- ---- what a stream delivers while the present packet came at a time: the first bytes of a segment's payload begin it. Bytes that came early and gaps
-- have their own times.

abbrev pub is_responses : Way → Bool
is_responses Requests = false
is_responses Responses = true

abbrev pub step_heard : StreamStep → (responses : Bool) → (present : Option ℕ) → WatchRoom → List ℕ → Slot → Talk
step_heard (step.Began syn) responses present room b s = talk [] (slot (begun responses syn s.watch) s.is_reported)
step_heard (step.Payload from count) responses present room b s = bytes_heard responses present (from == 0) room b s
step_heard (step.Held time begins) responses present room b s = bytes_heard responses time begins room b s
step_heard (step.Gap n cause time) responses present room b s = talk_of (after_gap responses n time room s.watch) s
step_heard step.Kept responses present room b s = talk [] s
step_heard step.Ended responses present room b s = talk_of (after_end responses room s.watch) s
step_heard step.Reset responses present room b s = talk_of (after_end responses room s.watch) s
step_heard step.Done responses present room b s = talk [] s

abbrev pub delivery_heard : (present : Option ℕ) → Delivery → WatchRoom → List ℕ → Slot → Talk
delivery_heard present t room b s = step_heard t.step (is_responses t.way) present room b s

-- ---- the end of a connection

abbrev pub and_then : Talk → (Slot → Talk) → Talk
and_then t f = talk (t.reports ++ (f t.after).reports) (f t.after).after

-- The frames end of which bytes came.
abbrev pub last_heard : (responses : Bool) → WatchRoom → Slot → Talk
last_heard responses room s = talk_of (after_end responses room s.watch) s

abbrev pub ended : WatchRoom → Slot → Talk
ended room s = and_then (last_heard false room s) (last_heard true room)

-- Each message that waits is reported alone, with how the connection ended.
abbrev pub remaining : ConnectionEnd → Waiting Kept → List Report
remaining end ms = map (λ e. Messages (alone e.1) (Some end)) ms

abbrev pub left : ConnectionEnd → WatchRoom → Slot → Talk
left end room s = and_then (ended room s) (λ v. talk (remaining end v.watch.waiting) v)
