-- What bytes hold, step by step.
use Rattle.std.proofs.Common.{◌≡◌, ◌∙◌, ◌-◌, ◌<◌, ◌&&◌, ◌==◌, length, ℕ, zero, suc, Bool, true, false, List, [], ◌∷◌, ◌++◌, drop, if◌then◌else◌, Option, Some, None, IsSome, Result, Err, refl, sym, ap, subst, append_assoc, append-nil, ◌≤◌, arith}
use Rattle.cqlp_observer.specs.declared.room.WatchRoom.{WatchRoom}
use Rattle.cqlp_observer.specs.declared.paired.Paired.{Paired}
use Rattle.cqlp_observer.specs.Keeping.{Kept}
use Rattle.cqlp_observer.specs.Pairings.{Waiting, alone, ended}
use Rattle.cqlp_observer.specs.Watches.{Steps, Reporting, Watched, finished, heard, report_then}
use Rattle.cqlp_capture_streams.specs.declared.fault.StreamsFault.{StreamsFault}
use Rattle.cqlp_capture_streams.specs.declared.fault.StreamsFault.TheVariants as fault
use Rattle.cqlp_capture_exchanges.specs.declared.connection.Connection.{Connection}
use Rattle.cqlp_capture_exchanges.specs.declared.report.ConnectionEnd.{ConnectionEnd}
use Rattle.cqlp_capture_exchanges.specs.Accounts.{Account, FailsAmong, ReportsAll, with_all}
use Rattle.cqlp_capture_exchanges.specs.Reports.{Report, Messages, of_step}
use Rattle.cqlp_capture_exchanges.specs.Talks.{Slot, Talk, all_heard, before, ended as both_ended, left, remaining, stepped, talk}
use Rattle.cqlp_capture_exchanges.proofs.Accounts.{fails_after, fails_first, known_after, refused_after, still_known, reports_more, with_others}

-- what a step reports, and those after it
abbrev pub next : (is_done : Bool) → List Report → Slot → Talk → Talk
next is_done ts v k = if is_done then talk ts v else before ts k

pub heard_next : (left : ℕ) (responses : Bool) (time : Option ℕ) (begins : Bool) (room : WatchRoom) (b : List ℕ) (s : Slot) (x : Steps) → 0 < left → x ≡ heard responses time begins b room s.watch → all_heard left responses time begins room b s ≡ next x.is_done (of_step time s.is_reported x) (stepped x s) (all_heard (left - 1) responses time (begins && x.used == 0) room (drop x.used b) (stepped x s))
heard_next zero responses time begins room b s x some e = absurd (omega arith)
heard_next (suc k) responses time begins room b s x some e =
    let less : suc k - 1 ≡ k = omega arith in
    rw less (ap (λ (y : Steps). next y.is_done (of_step time s.is_reported y) (stepped y s) (all_heard k responses time (begins && y.used == 0) room (drop y.used b) (stepped y s))) (sym e))

-- Of all that is reported, some was, and the rest is still to be.
pub record Hearing (n : Connection) (start : Account) (whole rest : Talk) (now : Account) : Type 0 where
  pub done : List Report
  pub accounted : now ≡ with_all n done start
  pub all : whole.reports ≡ done ++ rest.reports
  pub after : whole.after ≡ rest.after

pub hearing_starts : (n : Connection) (start : Account) (whole : Talk) → Hearing n start whole whole start
hearing_starts n start whole = record { done = []; accounted = refl; all = refl; after = refl }

-- a step reports something first
first_reported : (d : Bool) (ts : List Report) (v : Slot) (k : Talk) → (more : List Report) × ((next d ts v k).reports ≡ ts ++ more)
first_reported true ts v k = ([], sym (append-nil ts))
first_reported false ts v k = (k.reports, refl)

pub hearing_stops : (n : Connection) (start now new : Account) (whole rest k : Talk) (d : Bool) (ts : List Report) (v : Slot) (e : StreamsFault) → Hearing n start whole rest now → rest ≡ next d ts v k → FailsAmong e n ts now new → FailsAmong e n whole.reports start new
hearing_stops n start now new whole rest k d ts v e h is s =
    let first = first_reported d ts v k in
    let parts : whole.reports ≡ h.done ++ (ts ++ first.0) = h.all ∙ ap (λ z. h.done ++ z) (ap (λ (z : Talk). z.reports) is ∙ first.1) in
    subst (λ z. FailsAmong e n z start new) (sym parts) (fails_after n h.done ts first.0 start now new e h.accounted s)

-- memory is refused for what is still to be reported
pub hearing_refused : (n : Connection) (start now : Account) (whole rest : Talk) → Hearing n start whole rest now → FailsAmong fault.NoMemory n whole.reports start now
hearing_refused n start now whole rest h =
    subst (λ z. FailsAmong fault.NoMemory n z start now) (sym h.all) (refused_after n h.done rest.reports start now h.accounted)

done_is : (ts : List Report) (v : Slot) (k : Talk) (d : Bool) → d ≡ true → next d ts v k ≡ talk ts v
done_is ts v k true e = refl
done_is ts v k false e = absurd cc

more_is : (ts : List Report) (v : Slot) (k : Talk) (d : Bool) → d ≡ false → next d ts v k ≡ before ts k
more_is ts v k true e = absurd cc
more_is ts v k false e = refl

reported_parts : (n : Connection) (done more : List Report) (start now new : Account) → now ≡ with_all n done start → new ≡ with_all n more now → new ≡ with_all n (done ++ more) start
reported_parts n done more start now new e h = h ∙ ap (with_all n more) e ∙ sym (with_others n done more start)

pub hearing_is_done : (n : Connection) (start now new : Account) (whole rest k : Talk) (d : Bool) (ts : List Report) (v : Slot) → Hearing n start whole rest now → rest ≡ next d ts v k → d ≡ true → new ≡ with_all n ts now → (new ≡ with_all n whole.reports start) × (v ≡ whole.after)
hearing_is_done n start now new whole rest k d ts v h e is s =
    let last : rest ≡ talk ts v = e ∙ done_is ts v k d is in
    let parts : whole.reports ≡ h.done ++ ts = h.all ∙ ap (λ z. h.done ++ z) (ap (λ (z : Talk). z.reports) last) in
    (reported_parts n h.done ts start now new h.accounted s ∙ ap (λ z. with_all n z start) (sym parts), sym (h.after ∙ ap (λ (z : Talk). z.after) last))

pub hearing_goes_on : (n : Connection) (start now new : Account) (whole rest k : Talk) (d : Bool) (ts : List Report) (v : Slot) → Hearing n start whole rest now → rest ≡ next d ts v k → d ≡ false → new ≡ with_all n ts now → Hearing n start whole k new
hearing_goes_on n start now new whole rest k d ts v h e is s =
    let more : rest ≡ before ts k = e ∙ more_is ts v k d is in
    record {
      done = h.done ++ ts;
      accounted = reported_parts n h.done ts start now new h.accounted s;
      all = h.all ∙ ap (λ z. h.done ++ z) (ap (λ (z : Talk). z.reports) more) ∙ sym (append_assoc h.done ts k.reports);
      after = h.after ∙ ap (λ (z : Talk). z.after) more;
    }

pub hearing_ends : (n : Connection) (start now : Account) (whole rest : Talk) (v : Slot) → Hearing n start whole rest now → rest ≡ talk [] v → (now ≡ with_all n whole.reports start) × (v ≡ whole.after)
hearing_ends n start now whole rest v h e =
    let parts : whole.reports ≡ h.done = h.all ∙ ap (λ z. h.done ++ z) (ap (λ (z : Talk). z.reports) e) ∙ append-nil h.done in
    (h.accounted ∙ ap (λ z. with_all n z start) (sym parts), sym (h.after ∙ ap (λ (z : Talk). z.after) e))

pub hearing_known : (n : Connection) (start now : Account) (whole rest : Talk) → Hearing n start whole rest now → IsSome start.output.given → IsSome now.output.given
hearing_known n start now whole rest h k = subst (λ (z : Account). IsSome z.output.given) (sym h.accounted) (still_known n h.done start k)

-- ---- where no step is left

pub heard_none : (left : ℕ) (responses : Bool) (time : Option ℕ) (begins : Bool) (room : WatchRoom) (b : List ℕ) (s : Slot) → left ≤ 0 → all_heard left responses time begins room b s ≡ talk [] s
heard_none zero responses time begins room b s none = refl
heard_none (suc k) responses time begins room b s none = absurd (omega arith)

-- ---- the messages that wait

gone : (end : ConnectionEnd) (ms vs : Waiting Kept) (r : Paired Kept) → ◌≡◌ {A = Option (Paired Kept)} (Some r) (ended ms).reported → vs ≡ (ended ms).after → remaining end ms ≡ Messages r (Some end) ∷ remaining end vs
gone end [] vs r accounted after = absurd cc
gone end (m ∷ ms) vs r accounted after = let is : r ≡ alone m.1 = cc in λ i. Messages (sym is i) (Some end) ∷ remaining end (sym after i)

none_left : (end : ConnectionEnd) (ms : Waiting Kept) → ◌≡◌ {A = Option (Paired Kept)} None (ended ms).reported → remaining end ms ≡ []
none_left end [] accounted = refl
none_left end (m ∷ ms) accounted = absurd cc

fewer : (ms vs : Waiting Kept) (r : Paired Kept) → ◌≡◌ {A = Option (Paired Kept)} (Some r) (ended ms).reported → vs ≡ (ended ms).after → length vs < length ms
fewer [] vs r accounted after = absurd cc
fewer (m ∷ ms) vs r accounted after = rw after (omega arith)

pub go_next : (end : ConnectionEnd) (w v : Watched) (r : Paired Kept) → report_then (Some r) v ≡ finished w → remaining end w.waiting ≡ Messages r (Some end) ∷ remaining end v.waiting
go_next end w v r e = gone end w.waiting v.waiting r (ap (λ (z : Reporting). z.reported) e) (ap (λ (z : Reporting). z.after.waiting) e)

pub go_none : (end : ConnectionEnd) (w v : Watched) → report_then None v ≡ finished w → remaining end w.waiting ≡ []
go_none end w v e = none_left end w.waiting (ap (λ (z : Reporting). z.reported) e)

pub go_fewer : (w v : Watched) (r : Paired Kept) → report_then (Some r) v ≡ finished w → length v.waiting < length w.waiting
go_fewer w v r e = fewer w.waiting v.waiting r (ap (λ (z : Reporting). z.reported) e) (ap (λ (z : Reporting). z.after.waiting) e)

-- ---- a connection leaves: what its streams' ends report, and then the messages that wait

pub leave_ok : (n : Connection) (end end' : ConnectionEnd) (room room' : WatchRoom) (s v : Slot) (old mid new : Account) (r : Result (Unit {0}) StreamsFault) → room ≡ room' → end ≡ end' → mid ≡ with_all n (both_ended room s).reports old → v ≡ (both_ended room s).after → (IsSome mid.output.given → ReportsAll n (remaining end v.watch.waiting) mid r new) → IsSome old.output.given → ReportsAll n (left end' room' s).reports old r new
leave_ok n end end' room room' s v old mid new r same_room same_end accounted is go known =
    let last = subst (λ (z : Slot). ReportsAll n (remaining end z.watch.waiting) mid r new) is (go (known_after n (both_ended room s).reports old mid accounted known)) in
    let all : ReportsAll n (left end room s).reports old r new = reports_more n (both_ended room s).reports (remaining end (both_ended room s).after.watch.waiting) old mid new r accounted last in
    subst (λ (z : WatchRoom). ReportsAll n (left end' z s).reports old r new) same_room (subst (λ (z : ConnectionEnd). ReportsAll n (left z room s).reports old r new) same_end all)

pub leave_err : (n : Connection) (end : ConnectionEnd) (room room' : WatchRoom) (s : Slot) (old new : Account) (e : StreamsFault) → room ≡ room' → FailsAmong e n (both_ended room s).reports old new → ReportsAll n (left end room' s).reports old (Err e) new
leave_err n end room room' s old new e same h =
    subst (λ (z : WatchRoom). ReportsAll n (left end z s).reports old (Err e) new) same (fails_first n (both_ended room s).reports (remaining end (both_ended room s).after.watch.waiting) old new e h)
