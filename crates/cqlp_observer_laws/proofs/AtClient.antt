-- What an observer at the client's end has seen, after each step.
use Rattle.std.proofs.Common.{inl, inr, ◌≡◌, ℕ, Bool, true, false, cond, List, [], ◌∷◌, ◌++◌, take, refl, sym, ap, subst, ◌∙◌, append_assoc, append-nil, Option, Some, None, Ok, Err, Result, ℤ}
use Rattle.std.specs.Prelude.{find, map, option_map}
use Rattle.std.specs.Ordering.{int_eq}
use Rattle.std.specs.List.{AllByRecursion}
use Rattle.cqlp_note.specs.declared.opcode.Opcode.{Opcode}
use Rattle.cqlp_session.specs.declared.kind.RequestKind.{RequestKind}
use Rattle.cqlp_session.specs.declared.server.AnswerError.{AnswerError}
use Rattle.cqlp_session.specs.declared.server.ServerRefusal.{ServerRefusal}
use Rattle.cqlp_session.specs.declared.streams.OpenRequest.{OpenRequest}
use Rattle.cqlp_session.specs.declared.ticket.BeginError.{BeginError}
use Rattle.cqlp_session.specs.declared.ticket.Ticket.{Ticket}
use Rattle.cqlp_session.specs.Client.{ClientCore, cancelled, cancels, marked, replied, reply_to, ticket_for}
use Rattle.cqlp_session.specs.Kind.{answers}
use Rattle.cqlp_session.specs.Server.{accept_of, answer_of}
use Rattle.cqlp_session.specs.Slots.{put, under}
use Rattle.cqlp_session.specs.World.{World, Step, Send, Deliver_up, Answer, Push, Deliver_down, Cancel, Request, Message, delivered_up, event_message, happens, request_message, delivered_down, responded as responded_by, run, sent as sent_by, start, taken_in}
use Rattle.cqlp_session.proofs.Paired.{IsAnswerTo, IsComing, IsComingAs, IsKnown, IsPaired, no_event, paired_happens, replied_freed, start_paired, ticket_found}
use Rattle.cqlp_session.proofs.Progress.{under_put}
use Rattle.cqlp_session.proofs.Under.{cases_int, has_taken, int_eq_other, int_eq_same, under_new, under_put_other, under_put_same}
use Rattle.cqlp_observer.specs.declared.message.Frame.{Frame}
use Rattle.cqlp_observer.specs.declared.message.Message.{Message as Seen}
use Rattle.cqlp_observer.specs.Messages.{id_of, is_request, is_under, meets}
use Rattle.cqlp_observer.specs.Waiting.{exchange_with, exchanges, unmet}
use Rattle.cqlp_observer_laws.proofs.Lists.{find_front, without, without_none}
use Rattle.cqlp_observer_laws.proofs.Waits.{exchanges_then, found_none, found_some, one, waiting_apart, waiting_event, waiting_more, waiting_of}
use Rattle.cqlp_observer.proofs.Exchanged.{exchanges_event}
use Rattle.cqlp_observer_laws.specs.Honest.{IsView, PairsAsTheClient, Said, answer_in, answers_in, asked, at_client, passing, sent, viewed}
use Rattle.cqlp_observer_laws.proofs.Views.{Views, event_seen, find_without, id_seen, map_push, no_event_seen, none_without, reply_seen, request_is_no_event, request_seen, shown}

abbrev pub Both : Type 0
Both = List (Seen (Option Request) × Seen (Option Request))

-- the requests that wait, as the observer sees them
abbrev pub waits_seen : (Said → Frame) → List Said → Views
waits_seen view h = waiting_of (map (viewed view) h)

-- Under each of the client's ids waits the request that is open there, and each response was paired with its request.
pub record Sees (view : Said → Frame) (h : List Said) (slots : List (Option OpenRequest)) : Type 0 where
  pub free : (id : ℤ) → under slots id ≡ None → find (is_under id) (waits_seen view h) ≡ None
  pub waits : (r : Request) → IsKnown slots r → find (is_under r.ticket.id) (waits_seen view h) ≡ Some (shown view r)
  pub pairs : answers_in view h ≡ exchanges (map (viewed view) h)

answers_push : (view : Said → Frame) (h : List Said) (m : Said) → answers_in view (h ++ m ∷ []) ≡ answers_in view h ++ answer_in view m m.tag
answers_push view [] m = append-nil (answer_in view m m.tag)
answers_push view (x ∷ h) m =
    ap (λ (r : Both). answer_in view x x.tag ++ r) (answers_push view h m) ∙ sym (append_assoc (answer_in view x x.tag) (answers_in view h) (answer_in view m m.tag))

pub same_pairs : (view : Said → Frame) (h : List Said) (m : Said) → answer_in view m m.tag ≡ [] → exchanges (map (viewed view) (h ++ m ∷ [])) ≡ exchanges (map (viewed view) h) → answers_in view h ≡ exchanges (map (viewed view) h) → answers_in view (h ++ m ∷ []) ≡ exchanges (map (viewed view) (h ++ m ∷ []))
same_pairs view h m none same p =
    answers_push view h m
    ∙ ap (λ (r : Both). answers_in view h ++ r) none
    ∙ append-nil (answers_in view h)
    ∙ p
    ∙ sym same

-- ---- the client sends a request

none_seen : (view : Said → Frame) (is : IsView view) (h : List Said) (r : Request) → find (is_under r.ticket.id) (waits_seen view h) ≡ None → find (is_under (id_of (shown view r))) (waits_seen view h) ≡ None
none_seen view is h r none = subst (λ (i : ℤ). find (is_under i) (waits_seen view h) ≡ None) (sym (id_seen view is (asked (request_message r)))) none

pub asks_seen : (view : Said → Frame) (is : IsView view) (r : Request) → is_request (shown view r) ≡ true
asks_seen view is r = request_seen view is (asked (request_message r)) refl

pub waits_sent : (view : Said → Frame) (is : IsView view) (h : List Said) (r : Request) → find (is_under r.ticket.id) (waits_seen view h) ≡ None → waits_seen view (h ++ asked (request_message r) ∷ []) ≡ waits_seen view h ++ shown view r ∷ []
waits_sent view is h r none =
    let q = shown view r in
    let ws = waits_seen view h in
    let nobody = none_seen view is h r none in
    ap (λ (ms : Views). waiting_of ms) (map_push (viewed view) h (asked (request_message r)))
    ∙ waiting_more (map (viewed view) h) q (request_is_no_event q (asks_seen view is r))
    ∙ ap (λ (o : Option (Seen (Option Request))). without (id_of q) ws ++ one (unmet q o)) nobody
    ∙ ap (λ (ms : Views). ms ++ q ∷ []) (without_none (id_of q) ws nobody)

pub exchanges_sent : (view : Said → Frame) (is : IsView view) (h : List Said) (r : Request) → find (is_under r.ticket.id) (waits_seen view h) ≡ None → exchanges (map (viewed view) (h ++ asked (request_message r) ∷ [])) ≡ exchanges (map (viewed view) h)
exchanges_sent view is h r none =
    let q = shown view r in
    let before = exchanges (map (viewed view) h) in
    ap (λ (ms : Views). exchanges ms) (map_push (viewed view) h (asked (request_message r)))
    ∙ exchanges_then (map (viewed view) h) q (request_is_no_event q (asks_seen view is r))
    ∙ ap (λ (o : Option (Seen (Option Request))). before ++ exchange_with q o) (none_seen view is h r none)
    ∙ append-nil before

same_request : (r : Request) (t : Ticket) (k : RequestKind) → r.ticket.id ≡ t.id → r.ticket.number ≡ t.number → r.kind ≡ k → r ≡ record { ticket = t; kind = k }
same_request r t k id number kind =
    let ticket : r.ticket ≡ t = ap (λ (i : ℤ). let x : Ticket = record { id = i; number = r.ticket.number } in x) id ∙ ap (λ (n : ℕ). let x : Ticket = record { id = t.id; number = n } in x) number in
    ap (λ (x : Ticket). let y : Request = record { ticket = x; kind = r.kind } in y) ticket ∙ ap (λ (j : RequestKind). let y : Request = record { ticket = t; kind = j } in y) kind

sees_sent : (view : Said → Frame) (is : IsView view) (h : List Said) (w : World) (k : RequestKind) (t : Ticket) → ticket_for w.client k ≡ Ok t → Sees view h w.client.slots → (let entry : OpenRequest = record { number = t.number; kind = k; cancelled = false } in Sees view (h ++ asked (request_message (record { ticket = t; kind = k })) ∷ []) (put w.client.slots t.id (Some entry)))
sees_sent view is h w k t e p =
    let slots = w.client.slots in
    let at = ticket_found w.client k t e in
    let entry : OpenRequest = record { number = t.number; kind = k; cancelled = false } in
    let r : Request = record { ticket = t; kind = k } in
    let q = asked (request_message r) in
    let none = p.free t.id at.free in
    let more = waits_sent view is h r none in
    let here : under (put slots t.id (Some entry)) t.id ≡ Some entry = under_put_same slots t.id (Some entry) at.has in
    let own : is_under t.id (shown view r) ≡ true = ap (λ (i : ℤ). int_eq i t.id) (id_seen view is q) ∙ int_eq_same t.id in
    record {
      free = λ id empty. elim (cases_int id t.id) [
        | inl same ↦ absurd (let there = ap (under (put slots t.id (Some entry))) same in cc (there, here, empty))
        | inr other ↦
            let not_own : is_under id (shown view r) ≡ false = ap (λ (i : ℤ). int_eq i id) (id_seen view is q) ∙ int_eq_other t.id id (λ e. other (sym e)) in
            ap (λ (ms : Views). find (is_under id) ms) more
            ∙ found_none (is_under id) (waits_seen view h) (shown view r) not_own
            ∙ p.free id (sym (under_put_other slots t.id id (Some entry) other) ∙ empty)
      ];
      waits = λ s known. elim (cases_int s.ticket.id t.id) [
        | inl same ↦
            let there = ap (under (put slots t.id (Some entry))) same in
            let entries : known.entry ≡ entry = cc (there, here, known.there) in
            let is_it : s ≡ r = same_request s t k same (sym known.number ∙ ap (λ (o : OpenRequest). o.number) entries) (sym known.kind ∙ ap (λ (o : OpenRequest). o.kind) entries) in
            let found : find (is_under t.id) (waits_seen view (h ++ q ∷ [])) ≡ Some (shown view r) =
            ap (λ (ms : Views). find (is_under t.id) ms) more ∙ found_some (is_under t.id) (waits_seen view h) (shown view r) none own in
            subst (λ (x : Request). find (is_under x.ticket.id) (waits_seen view (h ++ q ∷ [])) ≡ Some (shown view x)) (sym is_it) found
        | inr other ↦
            let before : IsKnown slots s = record { entry = known.entry; there = sym (under_put_other slots t.id s.ticket.id (Some entry) other) ∙ known.there; number = known.number; kind = known.kind } in
            ap (λ (ms : Views). find (is_under s.ticket.id) ms) more
            ∙ find_front (is_under s.ticket.id) (waits_seen view h) (shown view r ∷ []) (shown view s) (p.waits s before)
      ];
      pairs = same_pairs view h q refl (exchanges_sent view is h r none) p.pairs;
    }

-- ---- a message is delivered to the client

pub waits_event : (view : Said → Frame) (is : IsView view) (h : List Said) (m : Said) → m.seen ≡ event_message.seen → waits_seen view (h ++ m ∷ []) ≡ waits_seen view h
waits_event view is h m e =
    ap (λ (ms : Views). waiting_of ms) (map_push (viewed view) h m) ∙ waiting_event (map (viewed view) h) (viewed view m) (event_seen view is m e)

pub pairs_event : (view : Said → Frame) (is : IsView view) (h : List Said) (m : Said) → m.tag ≡ None → m.seen ≡ event_message.seen → answers_in view h ≡ exchanges (map (viewed view) h) → answers_in view (h ++ m ∷ []) ≡ exchanges (map (viewed view) (h ++ m ∷ []))
pairs_event view is h m untagged e p =
    same_pairs view h m (ap (λ (o : Option Request). answer_in view m o) untagged) (ap (λ (ms : Views). exchanges ms) (map_push (viewed view) h m) ∙ exchanges_event (map (viewed view) h) (viewed view m) (event_seen view is m e)) p

sees_event : (view : Said → Frame) (is : IsView view) (h : List Said) (m : Said) (slots : List (Option OpenRequest)) → m.tag ≡ None → m.seen ≡ event_message.seen → Sees view h slots → Sees view (h ++ m ∷ []) slots
sees_event view is h m slots untagged e p =
    let same = waits_event view is h m e in
    record {
      free = λ id empty. ap (λ (ms : Views). find (is_under id) ms) same ∙ p.free id empty;
      waits = λ r known. ap (λ (ms : Views). find (is_under r.ticket.id) ms) same ∙ p.waits r known;
      pairs = pairs_event view is h m untagged e p.pairs;
    }

pub nothing_put : {A : Type 0} (slots : List (Option A)) (id : ℤ) → under (put slots id None) id ≡ None
nothing_put {A} slots id = under_put slots id None ∙ either _
  where
    either : (b : Bool) → cond {A = Option A} b None None ≡ None
    either true = refl
    either false = refl

-- an answer to a request of this kind
pub record IsReply (m : Said) (r : Request) : Type 0 where
  pub tagged : m.tag ≡ Some r
  pub response : m.seen.response ≡ true
  pub stream : m.seen.stream ≡ r.ticket.id
  pub kind : RequestKind
  pub fits : answers kind m.seen.opcode ≡ true

meets_seen : (view : Said → Frame) (is : IsView view) (m : Said) (r : Request) → IsReply m r → meets (shown view r) (viewed view m) ≡ true
meets_seen view is m r a = rw (asks_seen view is r, reply_seen view is m a.response) refl

asking_seen : (view : Said → Frame) (is : IsView view) (h : List Said) (m : Said) (r : Request) → find (is_under m.seen.stream) (waits_seen view h) ≡ Some (shown view r) → find (is_under (id_of (viewed view m))) (waits_seen view h) ≡ Some (shown view r)
asking_seen view is h m r found = ap (λ (i : ℤ). find (is_under i) (waits_seen view h)) (id_seen view is m) ∙ found

-- It meets the request that waits under its id.
pub waits_answer : (view : Said → Frame) (is : IsView view) (h : List Said) (m : Said) (r : Request) → IsReply m r → find (is_under m.seen.stream) (waits_seen view h) ≡ Some (shown view r) → waits_seen view (h ++ m ∷ []) ≡ without m.seen.stream (waits_seen view h)
waits_answer view is h m r a found =
    let v = viewed view m in
    let ws = waits_seen view h in
    let gone : unmet v (Some (shown view r)) ≡ None = rw (meets_seen view is m r a) refl in
    ap (λ (ms : Views). waiting_of ms) (map_push (viewed view) h m)
    ∙ waiting_more (map (viewed view) h) v (no_event_seen view is m (no_event a.kind m.seen.opcode a.fits))
    ∙ ap (λ (o : Option (Seen (Option Request))). without (id_of v) ws ++ one (unmet v o)) (asking_seen view is h m r found)
    ∙ ap (λ (o : Option (Seen (Option Request))). without (id_of v) ws ++ one o) gone
    ∙ append-nil (without (id_of v) ws)
    ∙ ap (λ (i : ℤ). without i ws) (id_seen view is m)

pub pairs_answer : (view : Said → Frame) (is : IsView view) (h : List Said) (m : Said) (r : Request) → IsReply m r → find (is_under m.seen.stream) (waits_seen view h) ≡ Some (shown view r) → answers_in view h ≡ exchanges (map (viewed view) h) → answers_in view (h ++ m ∷ []) ≡ exchanges (map (viewed view) (h ++ m ∷ []))
pairs_answer view is h m r a found p =
    let v = viewed view m in
    let before = exchanges (map (viewed view) h) in
    let pair : exchange_with v (Some (shown view r)) ≡ (shown view r, v) ∷ [] = rw (meets_seen view is m r a, asks_seen view is r) refl in
    let reported : exchanges (map (viewed view) (h ++ m ∷ [])) ≡ before ++ (shown view r, v) ∷ [] =
    ap (λ (ms : Views). exchanges ms) (map_push (viewed view) h m)
    ∙ exchanges_then (map (viewed view) h) v (no_event_seen view is m (no_event a.kind m.seen.opcode a.fits))
    ∙ ap (λ (o : Option (Seen (Option Request))). before ++ exchange_with v o) (asking_seen view is h m r found)
    ∙ ap (λ (b : Both). before ++ b) pair in
    let answer : answer_in view m m.tag ≡ (shown view r, v) ∷ [] = ap (λ (o : Option Request). answer_in view m o) a.tagged ∙ rw a.response refl in
    answers_push view h m
    ∙ ap (λ (b : Both). answers_in view h ++ b) answer
    ∙ ap (λ (b : Both). b ++ (shown view r, v) ∷ []) p
    ∙ sym reported

sees_answer : (view : Said → Frame) (is : IsView view) (h : List Said) (m : Said) (r : Request) (slots : List (Option OpenRequest)) → m.tag ≡ Some r → IsAnswerTo slots m.seen r → Sees view h slots → Sees view (h ++ m ∷ []) (put slots m.seen.stream None)
sees_answer view is h m r slots tagged a p =
    let id = m.seen.stream in
    let ws = waits_seen view h in
    let reply : IsReply m r = record { tagged = tagged; response = a.response; stream = a.stream; kind = r.kind; fits = a.fits } in
    let asking : find (is_under id) ws ≡ Some (shown view r) = ap (λ (i : ℤ). find (is_under i) ws) a.stream ∙ p.waits r a.known in
    let less = waits_answer view is h m r reply asking in
    record {
      free = λ other empty. ap (λ (ms : Views). find (is_under other) ms) less ∙ elim (cases_int other id) [
        | inl same ↦ subst (λ (i : ℤ). find (is_under i) (without id ws) ≡ None) (sym same) (none_without id ws (waiting_apart (map (viewed view) h)))
        | inr ne ↦ find_without id other ws ne ∙ p.free other (sym (under_put_other slots id other None ne) ∙ empty)
      ];
      waits = λ s known. elim (cases_int s.ticket.id id) [
        | inl same ↦ absurd (let there = ap (under (put slots id None)) same in let gone = nothing_put slots id in cc (there, gone, known.there))
        | inr ne ↦
            let before : IsKnown slots s = record { entry = known.entry; there = sym (under_put_other slots id s.ticket.id None ne) ∙ known.there; number = known.number; kind = known.kind } in
            ap (λ (ms : Views). find (is_under s.ticket.id) ms) less ∙ find_without id s.ticket.id ws ne ∙ p.waits s before
      ];
      pairs = pairs_answer view is h m r reply asking p.pairs;
    }

sees_came : (view : Said → Frame) (is : IsView view) (h : List Said) (m : Said) (c : ClientCore) (tag : Option Request) → m.tag ≡ tag → IsComingAs c.slots m.seen tag → Sees view h c.slots → Sees view (h ++ m ∷ []) (replied c m.seen (reply_to c m.seen)).slots
sees_came view is h m c None tagged came p =
    let same : replied c m.seen (reply_to c m.seen) ≡ c = ap (λ s. replied c s (reply_to c s)) came in
    subst (λ (d : ClientCore). Sees view (h ++ m ∷ []) d.slots) (sym same) (sees_event view is h m c.slots tagged came p)
sees_came view is h m c (Some r) tagged came p =
    subst (λ (d : ClientCore). Sees view (h ++ m ∷ []) d.slots) (sym (replied_freed c m.seen r came)) (sees_answer view is h m r c.slots tagged came p)

-- ---- a request is cancelled

unmarked : (slots : List (Option OpenRequest)) (o : Option OpenRequest) (id : ℤ) → under slots id ≡ o → (r : Request) → r.ticket.id ≡ id → IsKnown (put slots id (option_map marked o)) r → IsKnown slots r
unmarked slots None id e r same k = absurd (let there = ap (under (put slots id None)) same in let gone = nothing_put slots id in cc (there, gone, k.there))
unmarked slots (Some o) id e r same k =
    let has = has_taken slots id o e in
    let here : under (put slots id (Some (marked o))) id ≡ Some (marked o) = under_put_same slots id (Some (marked o)) has in
    let there = ap (under (put slots id (Some (marked o)))) same in
    let entries : k.entry ≡ marked o = cc (there, here, k.there) in
    record {
      entry = o;
      there = ap (under slots) same ∙ e;
      number = sym (ap (λ (x : OpenRequest). x.number) entries) ∙ k.number;
      kind = sym (ap (λ (x : OpenRequest). x.kind) entries) ∙ k.kind;
    }

pub marked_none : (slots : List (Option OpenRequest)) (o : Option OpenRequest) (id : ℤ) → under slots id ≡ o → under (put slots id (option_map marked o)) id ≡ None → o ≡ None
marked_none slots None id e empty = refl
marked_none slots (Some o) id e empty = absurd (let here = under_put_same slots id (Some (marked o)) (has_taken slots id o e) in cc (here, empty))

sees_cancelled : (view : Said → Frame) (h : List Said) (c : ClientCore) (t : Ticket) (b : Bool) → Sees view h c.slots → Sees view h (cancelled c t b).slots
sees_cancelled view h c t false p = p
sees_cancelled view h c t true p =
    let slots = c.slots in
    let new = option_map marked (under slots t.id) in
    record {
      free = λ id empty. elim (cases_int id t.id) [
        | inl same ↦ p.free id (ap (under slots) same ∙ marked_none slots (under slots t.id) t.id refl (sym (ap (under (put slots t.id new)) same) ∙ empty))
        | inr other ↦ p.free id (sym (under_put_other slots t.id id new other) ∙ empty)
      ];
      waits = λ r known. elim (cases_int r.ticket.id t.id) [
        | inl same ↦ p.waits r (unmarked slots (under slots t.id) t.id refl r same known)
        | inr other ↦ p.waits r (record { entry = known.entry; there = sym (under_put_other slots t.id r.ticket.id new other) ∙ known.there; number = known.number; kind = known.kind })
      ];
      pairs = p.pairs;
    }

-- ---- each step

stays : (view : Said → Frame) (h : List Said) (a b : ClientCore) → b ≡ a → Sees view h a.slots → Sees view (h ++ []) b.slots
stays view h a b same p = subst (λ (r : List Said). Sees view r b.slots) (sym (append-nil h)) (subst (λ (d : ClientCore). Sees view h d.slots) (sym same) p)

taken_client : (w : World) (m : Message Request) (rest : List (Message Request)) (o : Result RequestKind ServerRefusal) → (taken_in w m rest o).client ≡ w.client
taken_client w m rest (Ok k) = refl
taken_client w m rest (Err e) = refl

up_client : (w : World) (up : List (Message Request)) → (delivered_up w up).client ≡ w.client
up_client w [] = refl
up_client w (m ∷ rest) = taken_client w m rest (accept_of w.server m.seen)

answer_client : (w : World) (id : ℤ) (o : Opcode) (r : Result RequestKind AnswerError) → (responded_by w id o r).client ≡ w.client
answer_client w id o (Ok k) = refl
answer_client w id o (Err e) = refl

sees_begun : (view : Said → Frame) (is : IsView view) (h : List Said) (w : World) (k : RequestKind) (o : Result Ticket BeginError) → ticket_for w.client k ≡ o → Sees view h w.client.slots → Sees view (h ++ sent k o) (sent_by w k o).client.slots
sees_begun view is h w k (Ok t) e p = sees_sent view is h w k t e p
sees_begun view is h w k (Err why) e p = stays view h w.client w.client refl p

sees_down : (view : Said → Frame) (is : IsView view) (h : List Said) (w : World) (down : List (Message (Option Request))) → AllByRecursion (IsComing w.client.slots) down → Sees view h w.client.slots → Sees view (h ++ take 1 down) (delivered_down w down).client.slots
sees_down view is h w [] coming p = stays view h w.client w.client refl p
sees_down view is h w (m ∷ rest) coming p = sees_came view is h m w.client m.tag refl coming.0 p

sees_step : (view : Said → Frame) (is : IsView view) (h : List Said) (w : World) (s : Step) → IsPaired w → Sees view h w.client.slots → Sees view (h ++ at_client w s) (happens w s).client.slots
sees_step view is h w (Send k) q p = sees_begun view is h w k (ticket_for w.client k) refl p
sees_step view is h w Deliver_up q p = stays view h w.client (delivered_up w w.up).client (up_client w w.up) p
sees_step view is h w (Answer id o) q p = stays view h w.client _ (answer_client w id o (answer_of w.server id o)) p
sees_step view is h w Push q p = stays view h w.client w.client refl p
sees_step view is h w Deliver_down q p = sees_down view is h w w.down q.down p
sees_step view is h w (Cancel t) q p = stays view h (cancelled w.client t (cancels w.client t)) _ refl (sees_cancelled view h w.client t (cancels w.client t) p)

sees_all : (view : Said → Frame) (is : IsView view) (steps : List Step) (h : List Said) (w : World) → IsPaired w → Sees view h w.client.slots → Sees view (h ++ passing at_client steps w) (run steps w).client.slots
sees_all view is [] h w q p = stays view h w.client w.client refl p
sees_all view is (s ∷ steps) h w q p =
    subst (λ (r : List Said). Sees view r (run steps (happens w s)).client.slots) (append_assoc h (at_client w s) (passing at_client steps (happens w s)))
    (sees_all view is steps (h ++ at_client w s) (happens w s) (paired_happens w s q) (sees_step view is h w s q p))

pub pairs_at_client : PairsAsTheClient
pairs_at_client view c s steps is =
    let new : Sees view [] (start c s).client.slots = record {
      free = λ id empty. refl;
      waits = λ r known. absurd (let none = under_new {A = OpenRequest} c r.ticket.id in cc (none, known.there));
      pairs = refl;
    } in
    (sees_all view is steps [] (start c s) (start_paired c s) new).pairs
