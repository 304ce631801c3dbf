-- What is known after an event of a connection.
use Rattle.std.proofs.Common.{◌≡◌, ◌∙◌, ◌++◌, [], ℕ, IsSome, List, Option, Some, None, OnOk, Result, Ok, Err, ap, append-nil, sym, subst, refl}
use Rattle.std.specs.Io.KnownBytes.{append_known}
use Rattle.cqlp_text.specs.Outputs.{output, with_text}
use Rattle.cqlp_text.specs.Written.{Receives, Written}
use Rattle.cqlp_tcp_connections.specs.declared.delivery.Delivery.{Delivery}
use Rattle.cqlp_capture_streams.specs.declared.fault.StreamsFault.{StreamsFault}
use Rattle.cqlp_capture_streams.specs.ConnectionEvents.{ConnectionEvent}
use Rattle.cqlp_capture_frames.specs.declared.fault.ReportFault.{ReportFault}
use Rattle.cqlp_capture_frames.specs.declared.fault.ReportFault.TheVariants as fault
use Rattle.cqlp_capture_frames.specs.Faults.{Takes}
use Rattle.cqlp_capture_frames.specs.Reportings.{is_memory}
use Rattle.cqlp_capture_events.specs.Tables.{Table, reports}
use Rattle.cqlp_capture_events.specs.Listening.{Hears, Listening, Reports, change_of, listening, with_connection_event}

-- it is still known what the output was given
still_known : (given : Option (List ℕ)) (text : List ℕ) → IsSome given → IsSome (append_known given text)
still_known None text k = cc
still_known (Some t) text k = refl

heard_known : (old new : Listening) (s : ConnectionEvent) → new ≡ with_connection_event old s → IsSome old.output.given → IsSome new.output.given
heard_known old new s e k = subst (λ (w : Listening). IsSome w.output.given) (sym e) (still_known old.output.given (change_of s old).text k)

pub reports_what_it_heard : (old new : Listening) (s : ConnectionEvent) (r : Result (Unit {0}) StreamsFault) → (IsSome old.output.given → Hears old s r new) → OnOk r (IsSome old.output.given → IsSome new.output.given × (new ≡ with_connection_event old s))
reports_what_it_heard old new s (Ok u) h = λ k. (heard_known old new s (h k) k, h k)
reports_what_it_heard old new s (Err e) h = tt

-- ---- lines that were passed on

known_at : (given : Option (List ℕ)) → IsSome given → (text : List ℕ) × (given ≡ Some text)
known_at None known = cc
known_at (Some text) known = (text, refl)

-- what a writer passed on was written
passed_on : (w v : Written) (text : List ℕ) → w.waiting ≡ [] → v.waiting ≡ [] → IsSome w.given → Receives w text v → output v.given v.failures ≡ with_text (output w.given w.failures) text
passed_on w v text none none' known takes =
    let t = known_at w.given known in
    let p = takes.passed t.0 t.1 in
    let all : p.0 ≡ text = sym (append-nil p.0) ∙ ap (λ (z : List ℕ). p.0 ++ z) (sym none') ∙ p.2 ∙ ap (λ (z : List ℕ). z ++ text) none in
    let given : v.given ≡ append_known w.given text = p.1 ∙ ap (λ (z : List ℕ). Some (t.0 ++ z)) all ∙ sym (ap (λ (g : Option (List ℕ)). append_known g text) t.1) in
    λ i. output (given i) (takes.failures i)

pub reports_delivery : (asked : Option ℕ) (table table' : Table) (w v : Written) (delivered : Delivery) (bytes : List ℕ) (r : Result (Unit {0}) ReportFault) → w.waiting ≡ [] → v.waiting ≡ [] → IsSome w.given → Takes is_memory w (reports delivered bytes table).text r v → OnOk r (table' ≡ (reports delivered bytes table).table)
    → Reports (listening asked table (output w.given w.failures)) delivered bytes r (listening asked table' (output v.given v.failures))
reports_delivery asked table table' w v delivered bytes (Ok u) none none' known takes after = λ i. listening asked (after i) (passed_on w v (reports delivered bytes table).text none none' known takes i)
reports_delivery asked table table' w v delivered bytes (Err fault.Write) none none' known breaks after =
    let text = (reports delivered bytes table).text in
    let t = known_at w.given known in
    let p = breaks.passed t.0 t.1 in
    record {
      sent = p.0;
      lost = breaks.lost;
      later = breaks.later;
      split = p.2 ∙ ap (λ (z : List ℕ). z ++ text) none;
      given = p.1 ∙ sym (ap (λ (g : Option (List ℕ)). append_known g p.0) t.1);
      failures = breaks.failures;
    }
reports_delivery asked table table' w v delivered bytes (Err fault.NoMemory) none none' known (front, later, split, takes) after = (front, later, split, passed_on w v front none none' known takes)
