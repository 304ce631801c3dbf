-- What is known after an event of a connection.
use Rattle.std.proofs.Common.{◌≡◌, ◌∙◌, ◌++◌, [], ℕ, IsSome, List, Option, Some, None, OnOk, Result, Ok, Err, ap, append-nil, sym, subst, refl}
use Rattle.std.proofs.lemmas.Bool.{eq-eqb}
use Rattle.std.specs.Io.KnownBytes.{append_known}
use Rattle.cqlp_text.specs.Outputs.{output, with_text}
use Rattle.cqlp_text.specs.Written.{Receives, Written}
use Rattle.cqlp_tcp_connections.specs.declared.delivery.Delivery.{Delivery}
use Rattle.cqlp_tcp_connections.specs.declared.ends.Way.{Way}
use Rattle.cqlp_capture_prepared.specs.declared.requests.Requests.{Requests}
use Rattle.cqlp_capture_streams.specs.declared.fault.StreamsFault.{StreamsFault}
use Rattle.cqlp_capture_streams.specs.ConnectionEvents.{ConnectionEvent, Of}
use Rattle.cqlp_capture_frames.specs.declared.fault.ReportFault.{ReportFault}
use Rattle.cqlp_capture_frames.specs.declared.fault.ReportFault.TheVariants as why
use Rattle.cqlp_capture_frames.specs.Directions.{Direction, IsReported, Reporting}
use Rattle.cqlp_capture_frames.specs.Faults.{Takes}
use Rattle.cqlp_capture_frames.specs.Reportings.{is_memory}
use Rattle.cqlp_capture_rows.specs.Responses.{Responses}
use Rattle.cqlp_capture_rows.specs.OtherConnections.{OtherConnections}
use Rattle.cqlp_capture_rows.specs.Listening.{Change, Changes, Hears, Listening, answer_of, change_of, heard, heard_of, hears_responses, if_asked, listening, overheard, with_connection_event}

-- it is still known what the output was given
still_known : (given : Option (List ℕ)) (text : List ℕ) → IsSome given → IsSome (append_known given text)
still_known None text k = cc
still_known (Some t) text k = refl

heard_known : (old new : Listening) (s : ConnectionEvent) → new ≡ with_connection_event old s → IsSome old.output.given → IsSome new.output.given
heard_known old new s e k = subst (λ (w : Listening). IsSome w.output.given) (sym e) (still_known old.output.given (change_of s old).text k)

pub reports_what_it_heard : (old new : Listening) (s : ConnectionEvent) (r : Result (Unit {0}) StreamsFault) → (IsSome old.output.given → Hears old s r new) → OnOk r (IsSome old.output.given → IsSome new.output.given × (new ≡ with_connection_event old s))
reports_what_it_heard old new s (Ok u) h = λ k. (heard_known old new s (h k) k, h k)
reports_what_it_heard old new s (Err e) h = tt

-- ---- lines that were passed on

known_at : (given : Option (List ℕ)) → IsSome given → (text : List ℕ) × (given ≡ Some text)
known_at None known = cc
known_at (Some text) known = (text, refl)

-- what a writer passed on was written
passed_on : (w v : Written) (text : List ℕ) → w.waiting ≡ [] → v.waiting ≡ [] → IsSome w.given → Receives w text v → output v.given v.failures ≡ with_text (output w.given w.failures) text
passed_on w v text none none' known takes =
    let t = known_at w.given known in
    let p = takes.passed t.0 t.1 in
    let all : p.0 ≡ text = sym (append-nil p.0) ∙ ap (λ (z : List ℕ). p.0 ++ z) (sym none') ∙ p.2 ∙ ap (λ (z : List ℕ). z ++ text) none in
    let given : v.given ≡ append_known w.given text = p.1 ∙ ap (λ (z : List ℕ). Some (t.0 ++ z)) all ∙ sym (ap (λ (g : Option (List ℕ)). append_known g text) t.1) in
    λ i. output (given i) (takes.failures i)

-- the text that was put
pub taken : {S : Type 0} (t : Reporting S) (put : Result (Unit {0}) ReportFault) (w v : Written) (d : Direction) (known : S) → IsReported is_memory t put w v d known → Takes is_memory w t.text put v
taken t (Ok u) w v d known a = a.0
taken t (Err e) w v d known a = a

pub changes_so : (asked : ℕ) (requests : Requests) (direction direction' : Direction) (old new : Responses) (others : OtherConnections) (w mid v : Written) (t : Reporting Responses) (put r : Result (Unit {0}) ReportFault) → w.waiting ≡ [] → IsSome w.given → IsReported is_memory t put w mid direction' new → ((before : Written) (text : List ℕ) → Takes is_memory before text put mid → Takes is_memory before text r v) → ((before : Written) (text : List ℕ) → Takes is_memory before text put mid → v.waiting ≡ []) → OnOk r (put ≡ Ok tt)
    → Changes (listening asked requests direction old others (output w.given w.failures)) (hears_responses t (listening asked requests direction old others (output w.given w.failures))) (answer_of r) (listening asked requests direction' new others (output v.given v.failures))
changes_so asked requests direction direction' old new others w mid v t put (Ok u) none known reported on empty ok =
    let takes = taken t put w mid direction' new reported in
    let all = subst (λ (z : Result (Unit {0}) ReportFault). IsReported is_memory t z w mid direction' new) ok reported in
    let text = passed_on w v t.text none (empty w t.text takes) known (on w t.text takes) in
    λ i. listening asked requests (all.1 i) (all.2 i) others (text i)
changes_so asked requests direction direction' old new others w mid v t put (Err why.Write) none known reported on empty ok =
    let takes = taken t put w mid direction' new reported in
    let breaks = on w t.text takes in
    let at = known_at w.given known in
    let p = breaks.passed at.0 at.1 in
    record {
      sent = p.0;
      lost = breaks.lost;
      later = breaks.later;
      split = p.2 ∙ ap (λ (z : List ℕ). z ++ t.text) none;
      given = p.1 ∙ sym (ap (λ (g : Option (List ℕ)). append_known g p.0) at.1);
      failures = breaks.failures;
    }
changes_so asked requests direction direction' old new others w mid v t put (Err why.NoMemory) none known reported on empty ok =
    let takes = taken t put w mid direction' new reported in
    let front = on w t.text takes in
    (front.0, front.1, front.2, passed_on w v front.0 none (empty w t.text takes) known front.3)

-- of the connection that is asked for
pub change_asked : (old new : Listening) (number : ℕ) (x y : Change) (r : Result (Unit {0}) StreamsFault) → number ≡ old.asked → Changes old x r new → Changes old (if_asked number x y old) r new
change_asked old new number x y r is a = rw (eq-eqb number old.asked is) a

-- ---- what a direction delivers

pub hears_of : (old new : Listening) (t : Delivery) (b : List ℕ) (way : Way) (r : Result (Unit {0}) StreamsFault) → t.number ≡ old.asked → t.way ≡ way → Changes old (heard_of way t b old) r new → Hears old (Of t b) r new
hears_of old new t b way r number is a =
    change_asked old new t.number (heard t b old) (overheard t b old) r number (subst (λ (w : Way). Changes old (heard_of w t b old) r new) (sym is) a)
