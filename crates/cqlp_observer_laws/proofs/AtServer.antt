-- What an observer at the server's end has seen, after each step.
use Rattle.std.proofs.Common.{inl, inr, ◌≡◌, ◌≢◌, ◌≤◌, Bool, true, false, List, [], ◌∷◌, ◌++◌, take, refl, sym, ap, subst, ◌∙◌, arith, append_assoc, append-nil, Option, Some, None, Ok, Err, Result, ℤ}
use Rattle.std.specs.Prelude.{find, map, option_map, ⊤}
use Rattle.std.specs.List.{AllByRecursion}
use Rattle.std.specs.Ordering.{int_eq}
use Rattle.cqlp_note.specs.declared.opcode.Opcode.{Opcode}
use Rattle.cqlp_session.specs.declared.kind.RequestKind.{RequestKind}
use Rattle.cqlp_session.specs.declared.server.AnswerError.{AnswerError}
use Rattle.cqlp_session.specs.declared.server.ServerRefusal.{ServerRefusal}
use Rattle.cqlp_session.specs.declared.streams.OpenRequest.{OpenRequest}
use Rattle.cqlp_session.specs.declared.ticket.BeginError.{BeginError}
use Rattle.cqlp_session.specs.declared.ticket.Ticket.{Ticket}
use Rattle.cqlp_session.specs.Client.{ClientCore, cancelled, cancels, marked, replied, reply_to, ticket_for}
use Rattle.cqlp_session.specs.Server.{accept_of, answer_of}
use Rattle.cqlp_session.specs.Signal.{Signal}
use Rattle.cqlp_session.specs.Slots.{put, under}
use Rattle.cqlp_session.specs.World.{World, Step, Send, Deliver_up, Answer, Push, Deliver_down, Cancel, Request, Message, answer_message, delivered_down, delivered_up, event_message, happens, last_under, request_message, responded as responded_by, run, sent as sent_by, start, taken_in}
use Rattle.cqlp_session.proofs.Paired.{IsComing, IsComingAs, IsPaired, IsSent, answer_found, flights, is_coming_under, is_sent_under, is_tagged_under, known_apart, paired_happens, replied_freed, start_paired, ticket_found}
use Rattle.cqlp_session.proofs.Under.{cases_int, each_both, each_push, each_weaker, int_eq_other, int_eq_same, none_counted, under_new, under_put_other, under_put_same}
use Rattle.cqlp_observer.specs.declared.message.Frame.{Frame}
use Rattle.cqlp_observer.specs.declared.message.Message.{Message as Seen}
use Rattle.cqlp_observer.specs.Messages.{is_under}
use Rattle.cqlp_observer.specs.Waiting.{exchanges}
use Rattle.cqlp_observer_laws.proofs.Lists.{find_front, without}
use Rattle.cqlp_observer_laws.proofs.Waits.{found_none, found_some, waiting_apart}
use Rattle.cqlp_observer_laws.specs.Honest.{IsView, PairsAsTheServer, Said, answers_in, asked, at_server, passing, responded, viewed}
use Rattle.cqlp_observer_laws.proofs.Views.{Views, find_without, id_seen, none_without, shown}
use Rattle.cqlp_observer_laws.proofs.AtClient.{IsReply, exchanges_sent, marked_none, nothing_put, pairs_answer, pairs_event, same_pairs, waits_answer, waits_event, waits_seen, waits_sent}

-- ---- what waits

-- nothing waits under the id of the request that is tagged
abbrev NoneUnder : Views → Option Request → Type 0
NoneUnder ws None = ⊤
NoneUnder ws (Some r) = find (is_under r.ticket.id) ws ≡ None

-- Under an id that is free at the client, that of a request on its way, and that of an answer on its way, nothing waits; under one that the server is
-- to answer the request that it accepted last.
pub record Hears (view : Said → Frame) (h : List Said) (w : World) : Type 0 where
  pub free : (id : ℤ) → under w.client.slots id ≡ None → find (is_under id) (waits_seen view h) ≡ None
  pub up : AllByRecursion (λ m. find (is_under m.tag.ticket.id) (waits_seen view h) ≡ None) w.up
  pub down : AllByRecursion (λ m. NoneUnder (waits_seen view h) m.tag) w.down
  pub serving : (id : ℤ) (k : RequestKind) (r : Request) → under w.server.slots id ≡ Some k → last_under id w.taken ≡ Some r → find (is_under id) (waits_seen view h) ≡ Some (shown view r)
  pub pairs : answers_in view h ≡ exchanges (map (viewed view) h)

-- one more request under another id
none_more : (view : Said → Frame) (is : IsView view) (ws : Views) (r : Request) (id : ℤ) → r.ticket.id ≢ id → find (is_under id) ws ≡ None → find (is_under id) (ws ++ shown view r ∷ []) ≡ None
none_more view is ws r id ne none =
    let other : is_under id (shown view r) ≡ false = ap (λ (i : ℤ). int_eq i id) (id_seen view is (asked (request_message r))) ∙ int_eq_other r.ticket.id id ne in
    found_none (is_under id) ws (shown view r) other ∙ none

-- one less
none_less : (view : Said → Frame) (h : List Said) (id other : ℤ) → find (is_under other) (waits_seen view h) ≡ None → find (is_under other) (without id (waits_seen view h)) ≡ None
none_less view h id other none = elim (cases_int other id) [
  | inl same ↦ subst (λ (i : ℤ). find (is_under i) (without id (waits_seen view h)) ≡ None) (sym same) (none_without id (waits_seen view h) (waiting_apart (map (viewed view) h)))
  | inr ne ↦ find_without id other (waits_seen view h) ne ∙ none
]

down_less : (view : Said → Frame) (h : List Said) (id : ℤ) (tag : Option Request) → NoneUnder (waits_seen view h) tag → NoneUnder (without id (waits_seen view h)) tag
down_less view h id None n = n
down_less view h id (Some r) n = none_less view h id r.ticket.id n

other_tag : (view : Said → Frame) (is : IsView view) (ws : Views) (r : Request) (tag : Option Request) → is_tagged_under r.ticket.id tag ≡ false → NoneUnder ws tag → NoneUnder (ws ++ shown view r ∷ []) tag
other_tag view is ws r None isnt n = n
other_tag view is ws r (Some q) isnt n = none_more view is ws r q.ticket.id (λ e. absurd (cc (ap (λ (i : ℤ). int_eq i r.ticket.id) (sym e) ∙ int_eq_same r.ticket.id, isnt))) n

moved : {A : Type 0} (f : A → Views → Type 0) (xs : List A) (a b : Views) → b ≡ a → AllByRecursion (λ x. f x a) xs → AllByRecursion (λ x. f x b) xs
moved {A} f xs a b same h = subst (λ (r : Views). AllByRecursion (λ (x : A). f x r) xs) (sym same) h

-- ---- the client sends a request

hears_send : (view : Said → Frame) (h : List Said) (w : World) (k : RequestKind) (o : Result Ticket BeginError) → ticket_for w.client k ≡ o → Hears view h w → Hears view h (sent_by w k o)
hears_send view h w k (Err why) e p = p
hears_send view h w k (Ok t) e p =
    let at = ticket_found w.client k t e in
    let slots = w.client.slots in
    let entry : OpenRequest = record { number = t.number; kind = k; cancelled = false } in
    let here : under (put slots t.id (Some entry)) t.id ≡ Some entry = under_put_same slots t.id (Some entry) at.has in
    record {
      free = λ id empty. elim (cases_int id t.id) [
        | inl same ↦ absurd (let there = ap (under (put slots t.id (Some entry))) same in cc (there, here, empty))
        | inr other ↦ p.free id (sym (under_put_other slots t.id id (Some entry) other) ∙ empty)
      ];
      up = each_push _ w.up (request_message (record { ticket = t; kind = k })) p.up (p.free t.id at.free);
      down = p.down;
      serving = p.serving;
      pairs = p.pairs;
    }

-- ---- a request comes to the server

last_same : (taken : List (Message Request)) (m : Message Request) (id : ℤ) → m.seen.stream ≡ id → last_under id (m ∷ taken) ≡ Some m.tag
last_same taken m id e = rw (ap (λ (i : ℤ). int_eq i id) e ∙ int_eq_same id) refl

last_other : (taken : List (Message Request)) (m : Message Request) (id : ℤ) → m.seen.stream ≢ id → last_under id (m ∷ taken) ≡ last_under id taken
last_other taken m id ne = rw (int_eq_other m.seen.stream id ne) refl

-- nothing else is on its way under its id
pub record IsOnly (w : World) (rest : List (Message Request)) (id : ℤ) : Type 0 where
  pub up : AllByRecursion (λ m. is_sent_under id m ≡ false) rest
  pub down : AllByRecursion (λ m. is_coming_under id m ≡ false) w.down

only_one : (w : World) (m : Message Request) (rest : List (Message Request)) → IsPaired w → w.up ≡ m ∷ rest → IsOnly w rest m.tag.ticket.id
only_one w m rest q e =
    let id = m.tag.ticket.id in
    let once = subst (λ (up : List (Message Request)). flights up w.server.slots w.down id ≤ 1) e (q.once id) in
    let own = rw (int_eq_same id) at once in
    record {
      up = none_counted (is_sent_under id) rest (omega (arith, own));
      down = none_counted (is_coming_under id) w.down (omega (arith, own));
    }

-- what is but for what the server is to answer
pub record Came (view : Said → Frame) (h : List Said) (w : World) (rest : List (Message Request)) : Type 0 where
  pub free : (id : ℤ) → under w.client.slots id ≡ None → find (is_under id) (waits_seen view h) ≡ None
  pub up : AllByRecursion (λ m. find (is_under m.tag.ticket.id) (waits_seen view h) ≡ None) rest
  pub down : AllByRecursion (λ m. NoneUnder (waits_seen view h) m.tag) w.down
  pub pairs : answers_in view h ≡ exchanges (map (viewed view) h)

came_up : (view : Said → Frame) (is : IsView view) (h : List Said) (w : World) (m : Message Request) (rest : List (Message Request)) → IsPaired w → IsSent w.client.slots m → w.up ≡ m ∷ rest → Hears view h w → find (is_under m.tag.ticket.id) (waits_seen view h) ≡ None → AllByRecursion (λ n. find (is_under n.tag.ticket.id) (waits_seen view h) ≡ None) rest → Came view (h ++ asked (request_message m.tag) ∷ []) w rest
came_up view is h w m rest q s e p none others =
    let r = m.tag in
    let ws = waits_seen view h in
    let more = waits_sent view is h r none in
    let only = only_one w m rest q e in
    record {
      free = λ id empty. ap (λ (ms : Views). find (is_under id) ms) more ∙ none_more view is ws r id (known_apart w.client.slots id r empty s.known) (p.free id empty);
      up = moved (λ (n : Message Request) ms. find (is_under n.tag.ticket.id) ms ≡ None) rest _ _ more
          (each_weaker _ _ rest (λ n both. none_more view is ws r n.tag.ticket.id (λ same. absurd (cc (ap (λ (i : ℤ). int_eq i r.ticket.id) (sym same) ∙ int_eq_same r.ticket.id, both.1))) both.0) (each_both _ _ rest others only.up));
      down = moved (λ (n : Message (Option Request)) ms. NoneUnder ms n.tag) w.down _ _ more
          (each_weaker _ _ w.down (λ n both. other_tag view is ws r n.tag both.1 both.0) (each_both _ _ w.down p.down only.down));
      pairs = same_pairs view h (asked (request_message r)) refl (exchanges_sent view is h r none) p.pairs;
    }

-- one that is found already is found still
still_found : (view : Said → Frame) (is : IsView view) (h : List Said) (r : Request) (id : ℤ) (x : Seen (Option Request)) → find (is_under r.ticket.id) (waits_seen view h) ≡ None → find (is_under id) (waits_seen view h) ≡ Some x → find (is_under id) (waits_seen view (h ++ asked (request_message r) ∷ [])) ≡ Some x
still_found view is h r id x none found =
    ap (λ (ms : Views). find (is_under id) ms) (waits_sent view is h r none) ∙ find_front (is_under id) (waits_seen view h) (shown view r ∷ []) x found

now_found : (view : Said → Frame) (is : IsView view) (h : List Said) (r : Request) → find (is_under r.ticket.id) (waits_seen view h) ≡ None → find (is_under r.ticket.id) (waits_seen view (h ++ asked (request_message r) ∷ [])) ≡ Some (shown view r)
now_found view is h r none =
    let own : is_under r.ticket.id (shown view r) ≡ true = ap (λ (i : ℤ). int_eq i r.ticket.id) (id_seen view is (asked (request_message r))) ∙ int_eq_same r.ticket.id in
    ap (λ (ms : Views). find (is_under r.ticket.id) ms) (waits_sent view is h r none) ∙ found_some (is_under r.ticket.id) (waits_seen view h) (shown view r) none own

hears_taken : (view : Said → Frame) (is : IsView view) (h : List Said) (w : World) (m : Message Request) (rest : List (Message Request)) (o : Result RequestKind ServerRefusal) → m.seen.stream ≡ m.tag.ticket.id → Came view (h ++ asked (request_message m.tag) ∷ []) w rest → find (is_under m.tag.ticket.id) (waits_seen view h) ≡ None → Hears view h w → Hears view (h ++ asked (request_message m.tag) ∷ []) (taken_in w m rest o)
hears_taken view is h w m rest (Err why) own c none p = record {
  free = c.free;
  up = c.up;
  down = c.down;
  serving = λ id k r there last. still_found view is h m.tag id _ none (p.serving id k r there last);
  pairs = c.pairs;
}
hears_taken view is h w m rest (Ok j) own c none p =
    let all = h ++ asked (request_message m.tag) ∷ [] in
    record {
      free = c.free;
      up = c.up;
      down = c.down;
      serving = λ id k r there last. elim (cases_int id m.seen.stream) [
        | inl same ↦
            let is_it : m.tag ≡ r = let a = last_same w.taken m id (sym same) in cc (a, last) in
            let found = subst (λ (i : ℤ). find (is_under i) (waits_seen view all) ≡ Some (shown view m.tag)) (sym (same ∙ own)) (now_found view is h m.tag none) in
            subst (λ (x : Request). find (is_under id) (waits_seen view all) ≡ Some (shown view x)) is_it found
        | inr other ↦
            still_found view is h m.tag id _ none
            (p.serving id k r (sym (under_put_other w.server.slots m.seen.stream id (Some j) other) ∙ there) (sym (last_other w.taken m id (λ e. other (sym e))) ∙ last))
      ];
      pairs = c.pairs;
    }

stays : (view : Said → Frame) (h : List Said) (w : World) → Hears view h w → Hears view (h ++ []) w
stays view h w p = subst (λ (r : List Said). Hears view r w) (sym (append-nil h)) p

hears_up : (view : Said → Frame) (is : IsView view) (h : List Said) (w : World) (up : List (Message Request)) → w.up ≡ up → IsPaired w → Hears view h w → Hears view (h ++ map asked (take 1 up)) (delivered_up w up)
hears_up view is h w [] e q p = stays view h w p
hears_up view is h w (m ∷ rest) e q p =
    let sent = (subst (λ (up : List (Message Request)). AllByRecursion (IsSent w.client.slots) up) e q.up).0 in
    let none = subst (λ (up : List (Message Request)). AllByRecursion (λ n. find (is_under n.tag.ticket.id) (waits_seen view h) ≡ None) up) e p.up in
    let same : asked m ≡ asked (request_message m.tag) = ap (λ s. let x : Said = record { seen = s; tag = Some m.tag } in x) sent.seen in
    let own : m.seen.stream ≡ m.tag.ticket.id = ap (λ (s : Signal). s.stream) sent.seen in
    subst (λ (x : Said). Hears view (h ++ x ∷ []) (taken_in w m rest (accept_of w.server m.seen))) (sym same)
    (hears_taken view is h w m rest (accept_of w.server m.seen) own (came_up view is h w m rest q sent e p none.0 none.1) none.0 p)

-- ---- the server answers

hears_answer : (view : Said → Frame) (is : IsView view) (h : List Said) (w : World) (id : ℤ) (o : Opcode) (r : Result RequestKind AnswerError) → answer_of w.server id o ≡ r → IsPaired w → Hears view h w → Hears view (h ++ responded w id o r) (responded_by w id o r)
hears_answer view is h w id o (Err why) e q p = stays view h w p
hears_answer view is h w id o (Ok k) e q p =
    let ws = waits_seen view h in
    let an = answer_found w.server id o k e in
    let t = q.taken id k an.there in
    let m : Said = answer_message id o (last_under id w.taken) in
    let reply : IsReply m t.request = record { tagged = t.last; response = refl; stream = sym t.stream; kind = k; fits = an.fits } in
    let found = p.serving id k t.request an.there t.last in
    let less : waits_seen view (h ++ m ∷ []) ≡ without id ws = waits_answer view is h m t.request reply found in
    let gone : find (is_under t.request.ticket.id) (waits_seen view (h ++ m ∷ [])) ≡ None =
    ap (λ (ms : Views). find (is_under t.request.ticket.id) ms) less
    ∙ ap (λ (i : ℤ). find (is_under i) (without id ws)) t.stream
    ∙ none_without id ws (waiting_apart (map (viewed view) h)) in
    record {
      free = λ other empty. ap (λ (ms : Views). find (is_under other) ms) less ∙ none_less view h id other (p.free other empty);
      up = moved (λ (n : Message Request) ms. find (is_under n.tag.ticket.id) ms ≡ None) w.up _ _ less (each_weaker _ _ w.up (λ n none. none_less view h id n.tag.ticket.id none) p.up);
      down = each_push _ w.down m
          (moved (λ (n : Message (Option Request)) ms. NoneUnder ms n.tag) w.down _ _ less (each_weaker _ _ w.down (λ n none. down_less view h id n.tag none) p.down))
          (subst (λ (tag : Option Request). NoneUnder (waits_seen view (h ++ m ∷ [])) tag) (sym t.last) gone);
      serving = λ other j s there last. elim (cases_int other id) [
        | inl same ↦ absurd (let here = ap (under (put w.server.slots id None)) same in let none = nothing_put w.server.slots id in cc (here, none, there))
        | inr ne ↦ ap (λ (ms : Views). find (is_under other) ms) less ∙ find_without id other ws ne ∙ p.serving other j s (sym (under_put_other w.server.slots id other None ne) ∙ there) last
      ];
      pairs = pairs_answer view is h m t.request reply found p.pairs;
    }

-- ---- an event, a delivery to the client, a request that is given up

hears_push : (view : Said → Frame) (is : IsView view) (h : List Said) (w : World) → Hears view h w → Hears view (h ++ event_message ∷ []) (record w { down = w.down ++ event_message ∷ [] })
hears_push view is h w p =
    let same = waits_event view is h event_message refl in
    record {
      free = λ id empty. ap (λ (ms : Views). find (is_under id) ms) same ∙ p.free id empty;
      up = moved (λ (n : Message Request) ms. find (is_under n.tag.ticket.id) ms ≡ None) w.up _ _ same p.up;
      down = each_push _ w.down event_message (moved (λ (n : Message (Option Request)) ms. NoneUnder ms n.tag) w.down _ _ same p.down) tt;
      serving = λ id k r there last. ap (λ (ms : Views). find (is_under id) ms) same ∙ p.serving id k r there last;
      pairs = pairs_event view is h event_message refl refl p.pairs;
    }

-- with another client, whose free ids have nothing that waits
with_client : (view : Said → Frame) (h : List Said) (w : World) (c : ClientCore) (down : List (Message (Option Request))) (waiting : List Request) → ((id : ℤ) → under c.slots id ≡ None → find (is_under id) (waits_seen view h) ≡ None) → AllByRecursion (λ m. NoneUnder (waits_seen view h) m.tag) down → Hears view h w → Hears view h (record w { client = c; down = down; waiting = waiting })
with_client view h w c down waiting free none p = record { free = free; up = p.up; down = none; serving = p.serving; pairs = p.pairs }

freed_by : (view : Said → Frame) (h : List Said) (w : World) (m : Said) (tag : Option Request) → IsComingAs w.client.slots m.seen tag → NoneUnder (waits_seen view h) tag → Hears view h w → (id : ℤ) → under (replied w.client m.seen (reply_to w.client m.seen)).slots id ≡ None → find (is_under id) (waits_seen view h) ≡ None
freed_by view h w m None came none p id empty =
    let same : replied w.client m.seen (reply_to w.client m.seen) ≡ w.client = ap (λ s. replied w.client s (reply_to w.client s)) came in
    p.free id (ap (λ (c : ClientCore). under c.slots id) (sym same) ∙ empty)
freed_by view h w m (Some r) came none p id empty =
    let there : under (put w.client.slots m.seen.stream None) id ≡ None = ap (λ (c : ClientCore). under c.slots id) (sym (replied_freed w.client m.seen r came)) ∙ empty in
    elim (cases_int id m.seen.stream) [
      | inl same ↦ subst (λ (i : ℤ). find (is_under i) (waits_seen view h) ≡ None) (sym (same ∙ came.stream)) none
      | inr other ↦ p.free id (sym (under_put_other w.client.slots m.seen.stream id None other) ∙ there)
    ]

hears_down : (view : Said → Frame) (h : List Said) (w : World) (down : List (Message (Option Request))) → w.down ≡ down → IsPaired w → Hears view h w → Hears view h (delivered_down w down)
hears_down view h w [] e q p = p
hears_down view h w (m ∷ rest) e q p =
    let coming = subst (λ (d : List (Message (Option Request))). AllByRecursion (IsComing w.client.slots) d) e q.down in
    let none = subst (λ (d : List (Message (Option Request))). AllByRecursion (λ n. NoneUnder (waits_seen view h) n.tag) d) e p.down in
    with_client view h w _ rest _ (freed_by view h w m m.tag coming.0 none.0 p) none.1 p

hears_cancelled : (view : Said → Frame) (h : List Said) (w : World) (t : Ticket) (b : Bool) → Hears view h w → Hears view h (record w { client = cancelled w.client t b })
hears_cancelled view h w t false p = p
hears_cancelled view h w t true p =
    let slots = w.client.slots in
    let new = option_map marked (under slots t.id) in
    record {
      free = λ id empty. elim (cases_int id t.id) [
        | inl same ↦ p.free id (ap (under slots) same ∙ marked_none slots (under slots t.id) t.id refl (sym (ap (under (put slots t.id new)) same) ∙ empty))
        | inr other ↦ p.free id (sym (under_put_other slots t.id id new other) ∙ empty)
      ];
      up = p.up;
      down = p.down;
      serving = p.serving;
      pairs = p.pairs;
    }

-- ---- each step

hears_step : (view : Said → Frame) (is : IsView view) (h : List Said) (w : World) (s : Step) → IsPaired w → Hears view h w → Hears view (h ++ at_server w s) (happens w s)
hears_step view is h w (Send k) q p = stays view h _ (hears_send view h w k (ticket_for w.client k) refl p)
hears_step view is h w Deliver_up q p = hears_up view is h w w.up refl q p
hears_step view is h w (Answer id o) q p = hears_answer view is h w id o (answer_of w.server id o) refl q p
hears_step view is h w Push q p = hears_push view is h w p
hears_step view is h w Deliver_down q p = stays view h _ (hears_down view h w w.down refl q p)
hears_step view is h w (Cancel t) q p = stays view h _ (hears_cancelled view h w t (cancels w.client t) p)

hears_all : (view : Said → Frame) (is : IsView view) (steps : List Step) (h : List Said) (w : World) → IsPaired w → Hears view h w → Hears view (h ++ passing at_server steps w) (run steps w)
hears_all view is [] h w q p = stays view h w p
hears_all view is (s ∷ steps) h w q p =
    subst (λ (r : List Said). Hears view r (run steps (happens w s))) (append_assoc h (at_server w s) (passing at_server steps (happens w s)))
    (hears_all view is steps (h ++ at_server w s) (happens w s) (paired_happens w s q) (hears_step view is h w s q p))

pub pairs_at_server : PairsAsTheServer
pairs_at_server view c s steps is =
    let new : Hears view [] (start c s) = record {
      free = λ id empty. refl;
      up = tt;
      down = tt;
      serving = λ id k r there last. absurd (let none = under_new {A = RequestKind} s id in cc (none, there));
      pairs = refl;
    } in
    (hears_all view is steps [] (start c s) (start_paired c s) new).pairs
