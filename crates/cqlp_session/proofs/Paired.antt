-- What holds of a world after each step: each request that is anywhere between the cores occurs once, and is in
-- its slot of the client.
use Rattle.std.proofs.Common.{◌≡◌, ◌≢◌, ℕ, ◌+◌, ◌≤◌, Bool, true, false, not, List, [], ◌∷◌, ◌++◌, Option, Some, None, Ok, Err, Result, cond, arith, refl, ap, ◌∙◌, sym, subst, inl, inr, ℤ, pos, eqb}
use Rattle.std.specs.Prelude.{◌^◌, ◌-◌, is_none, option_map, nat_lt}
use Rattle.std.specs.List.{AllByRecursion}
use Rattle.std.specs.Ordering.{int_eq}
use Rattle.std.proofs.lemmas.Bool.{cases_Bool, eq-eqb}
use Rattle.cqlp_note.specs.declared.opcode.Opcode.{Opcode}
use Rattle.cqlp_note.specs.declared.opcode.Opcode.TheVariants as opcode
use Rattle.cqlp_session.specs.declared.kind.RequestKind.{RequestKind}
use Rattle.cqlp_session.specs.declared.kind.RequestKind.TheVariants as kind
use Rattle.cqlp_session.specs.declared.streams.OpenRequest.{OpenRequest}
use Rattle.cqlp_session.specs.declared.ticket.Ticket.{Ticket}
use Rattle.cqlp_session.specs.declared.ticket.Reply.{Reply}
use Rattle.cqlp_session.specs.declared.ticket.Reply.TheVariants as reply
use Rattle.cqlp_session.specs.declared.ticket.BeginError.{BeginError}
use Rattle.cqlp_session.specs.declared.server.ServerRefusal.{ServerRefusal}
use Rattle.cqlp_session.specs.declared.server.AnswerError.{AnswerError}
use Rattle.cqlp_session.specs.Kind.{answers, kind_of, opcode_of}
use Rattle.cqlp_session.specs.Phase.{may_begin, phase_answered}
use Rattle.cqlp_session.specs.Signal.{Signal, is_event}
use Rattle.cqlp_session.specs.Slots.{has_slot, least_free, put, under}
use Rattle.cqlp_session.specs.Client.{ClientCore, cancelled, cancels, closed, marked, replied, reply_to, ticket_for, ticket_under}
use Rattle.cqlp_session.specs.Server.{ServerCore, accept_kind, accept_of, answer_for, answer_of, answered}
use Rattle.cqlp_session.specs.World.{World, Step, Send, Deliver_up, Answer, Push, Deliver_down, Cancel, Request, Message, request_message, answer_message, event_message, sent, taken_in, delivered_up, last_under, without, responded, delivered_down, happens, run, start}
use Rattle.cqlp_session.specs.Pairing.{HaveOtherIds, HaveOtherNumbers}
use Rattle.cqlp_session.proofs.Under.{int_eq_same, int_eq_other, cases_int, under_put_other, under_put_same, has_taken, least_is_free, under_new, each_weaker, each_both, each_push, each_filtered, PairsByRecursion, pairs_filtered, count, count-push, count_none, none_counted}

-- ---- a request and its slot

-- The client's slot under the request's id has its number and its kind.
pub record IsKnown (slots : List (Option OpenRequest)) (r : Request) : Type 0 where
  pub entry : OpenRequest
  pub there : under slots r.ticket.id ≡ Some entry
  pub number : entry.number ≡ r.ticket.number
  pub kind : entry.kind ≡ r.kind

pub known_kept : (slots : List (Option OpenRequest)) (id : ℤ) (what : Option OpenRequest) (r : Request) → r.ticket.id ≢ id → IsKnown slots r → IsKnown (put slots id what) r
known_kept slots id what r ne k = record { entry = k.entry; there = under_put_other slots id r.ticket.id what ne ∙ k.there; number = k.number; kind = k.kind }

pub known_apart : (slots : List (Option OpenRequest)) (id : ℤ) (r : Request) → under slots id ≡ None → IsKnown slots r → r.ticket.id ≢ id
known_apart slots id r free k e = let same = ap (under slots) e in absurd (cc (same, k.there, free))

-- two known requests under one id have one number
pub known_number : (slots : List (Option OpenRequest)) (r q : Request) → IsKnown slots r → IsKnown slots q → q.ticket.id ≡ r.ticket.id → q.ticket.number ≡ r.ticket.number
known_number slots r q k h e =
    let same = ap (under slots) e in
    let entries : h.entry ≡ k.entry = cc (same, k.there, h.there) in
    sym h.number ∙ ap (λ (o : OpenRequest). o.number) entries ∙ k.number

-- ---- what is on its way

pub record IsSent (slots : List (Option OpenRequest)) (m : Message Request) : Type 0 where
  pub seen : m.seen ≡ (request_message m.tag).seen
  pub known : IsKnown slots m.tag

pub record IsAnswerTo (slots : List (Option OpenRequest)) (s : Signal) (r : Request) : Type 0 where
  pub response : s.response ≡ true
  pub stream : s.stream ≡ r.ticket.id
  pub fits : answers r.kind s.opcode ≡ true
  pub known : IsKnown slots r

abbrev pub IsComingAs : List (Option OpenRequest) → Signal → Option Request → Type 0
IsComingAs slots s None = s ≡ event_message.seen
IsComingAs slots s (Some r) = IsAnswerTo slots s r

abbrev pub IsComing : List (Option OpenRequest) → Message (Option Request) → Type 0
IsComing slots m = IsComingAs slots m.seen m.tag

-- the request under an id of the server is the one that was last taken in there
pub record IsTaken (slots : List (Option OpenRequest)) (taken : List (Message Request)) (id : ℤ) (k : RequestKind) : Type 0 where
  pub request : Request
  pub last : last_under id taken ≡ Some request
  pub stream : request.ticket.id ≡ id
  pub kind : request.kind ≡ k
  pub known : IsKnown slots request

pub record IsServed (slots : List (Option OpenRequest)) (served : List (Option RequestKind)) (r : Request) : Type 0 where
  pub known : IsKnown slots r
  pub kind : RequestKind
  pub there : under served r.ticket.id ≡ Some kind

-- ---- how many requests under an id are on their way

abbrev pub is_sent_under : ℤ → Message Request → Bool
is_sent_under id m = int_eq m.tag.ticket.id id

abbrev pub is_tagged_under : ℤ → Option Request → Bool
is_tagged_under id None = false
is_tagged_under id (Some r) = int_eq r.ticket.id id

abbrev pub is_coming_under : ℤ → Message (Option Request) → Bool
is_coming_under id m = is_tagged_under id m.tag

abbrev pub present : {A : Type 0} → Option A → ℕ
present None = 0
present (Some a) = 1

abbrev pub flights : List (Message Request) → List (Option RequestKind) → List (Message (Option Request)) → ℤ → ℕ
flights up served down id = count (is_sent_under id) up + (present (under served id) + count (is_coming_under id) down)

pub record IsPaired (w : World) : Type 0 where
  pub up : AllByRecursion (IsSent w.client.slots) w.up
  pub down : AllByRecursion (IsComing w.client.slots) w.down
  pub taken : (id : ℤ) (k : RequestKind) → under w.server.slots id ≡ Some k → IsTaken w.client.slots w.taken id k
  pub once : (id : ℤ) → flights w.up w.server.slots w.down id ≤ 1
  pub waiting : AllByRecursion (IsKnown w.client.slots) w.waiting
  pub waiting_apart : PairsByRecursion HaveOtherIds w.waiting
  pub numbers : AllByRecursion (λ r. r.ticket.number ≤ w.client.begun) w.waiting
  pub numbers_apart : PairsByRecursion HaveOtherNumbers w.waiting
  pub serving : AllByRecursion (IsServed w.client.slots w.server.slots) w.serving
  pub serving_apart : PairsByRecursion HaveOtherIds w.serving

pub start_paired : (c s : ℕ) → IsPaired (start c s)
start_paired c s = record {
  up = tt;
  down = tt;
  taken = λ id k e. absurd (cc (under_new {A = RequestKind} s id, e));
  once = λ id. rw (ap present (under_new {A = RequestKind} s id)) (omega arith);
  waiting = tt;
  waiting_apart = tt;
  numbers = tt;
  numbers_apart = tt;
  serving = tt;
  serving_apart = tt;
}

-- ---- a request begins

-- what a ticket says: its id was free, and its number is the next
pub record IsTicket (c : ClientCore) (t : Ticket) : Type 0 where
  pub has : has_slot c.slots t.id ≡ true
  pub free : under c.slots t.id ≡ None
  pub number : t.number ≡ c.begun + 1

ticket_under_found : (c : ClientCore) (place : Option ℕ) (t : Ticket) → least_free c.slots ≡ place → ticket_under (c.begun + 1) place ≡ Ok t → IsTicket c t
ticket_under_found c None t e is = absurd (cc is)
ticket_under_found c (Some i) t e is =
    let at = least_is_free c.slots i e in
    let same : ◌≡◌ {A = Ticket} (record { id = pos i; number = c.begun + 1 }) t = cc is in
    subst (IsTicket c) same (record { has = at.0; free = at.1; number = refl })

pub ticket_found : (c : ClientCore) (k : RequestKind) (t : Ticket) → ticket_for c k ≡ Ok t → IsTicket c t
ticket_found c k t is = elim (cases_Bool (may_begin c.phase k)) [
  | inl may ↦
      let then = rw may at is in
      elim (cases_Bool (nat_lt c.begun (2 ^ 64 - 1))) [
        | inl left ↦ ticket_under_found c (least_free c.slots) t refl (rw left at then)
        | inr spent ↦ absurd (cc (rw spent at then))
      ]
  | inr not ↦ absurd (cc (rw not at is))
]

pub ticket_may : (c : ClientCore) (k : RequestKind) (t : Ticket) → ticket_for c k ≡ Ok t → may_begin c.phase k ≡ true
ticket_may c k t is = elim (cases_Bool (may_begin c.phase k)) [
  | inl may ↦ may
  | inr not ↦ absurd (cc (rw not at is))
]

-- none of the known requests has an id that is free
none_sent : (slots : List (Option OpenRequest)) (id : ℤ) (up : List (Message Request)) → under slots id ≡ None → AllByRecursion (IsSent slots) up → count (is_sent_under id) up ≡ 0
none_sent slots id up free h = count_none (is_sent_under id) up (each_weaker (IsSent slots) (λ m. is_sent_under id m ≡ false) up (λ m k. int_eq_other m.tag.ticket.id id (known_apart slots id m.tag free k.known)) h)

not_coming : (slots : List (Option OpenRequest)) (id : ℤ) (s : Signal) (tag : Option Request) → under slots id ≡ None → IsComingAs slots s tag → is_tagged_under id tag ≡ false
not_coming slots id s None free h = refl
not_coming slots id s (Some r) free h = int_eq_other r.ticket.id id (known_apart slots id r free h.known)

none_coming : (slots : List (Option OpenRequest)) (id : ℤ) (down : List (Message (Option Request))) → under slots id ≡ None → AllByRecursion (IsComing slots) down → count (is_coming_under id) down ≡ 0
none_coming slots id down free h = count_none (is_coming_under id) down (each_weaker (IsComing slots) (λ m. is_coming_under id m ≡ false) down (λ m k. not_coming slots id m.seen m.tag free k) h)

none_present : (w : World) (id : ℤ) (o : Option RequestKind) → IsPaired w → under w.client.slots id ≡ None → under w.server.slots id ≡ o → present o ≡ 0
none_present w id None p free e = refl
none_present w id (Some k) p free e =
    let t = p.taken id k e in
    absurd (known_apart w.client.slots id t.request free t.known t.stream)

-- nothing is on its way under an id that is free
none_flies : (w : World) (id : ℤ) → IsPaired w → under w.client.slots id ≡ None → flights w.up w.server.slots w.down id ≡ 0
none_flies w id p free =
    let up = none_sent w.client.slots id w.up free p.up in
    let down = none_coming w.client.slots id w.down free p.down in
    let at = none_present w id _ p free refl in
    omega (arith, up, down, at)

-- a slot that is written under an id that was free keeps what is known
kept_sent : (slots : List (Option OpenRequest)) (id : ℤ) (what : Option OpenRequest) → under slots id ≡ None → (m : Message Request) → IsSent slots m → IsSent (put slots id what) m
kept_sent slots id what free m h = record { seen = h.seen; known = known_kept slots id what m.tag (known_apart slots id m.tag free h.known) h.known }

coming_kept : (slots : List (Option OpenRequest)) (id : ℤ) (what : Option OpenRequest) (s : Signal) (tag : Option Request) → is_tagged_under id tag ≡ false → IsComingAs slots s tag → IsComingAs (put slots id what) s tag
coming_kept slots id what s None other h = h
coming_kept slots id what s (Some r) other h = record {
  response = h.response;
  stream = h.stream;
  fits = h.fits;
  known = known_kept slots id what r (λ e. absurd (cc (ap (λ i. int_eq i id) e ∙ int_eq_same id, other))) h.known;
}

taken_kept : (slots : List (Option OpenRequest)) (id : ℤ) (what : Option OpenRequest) (taken : List (Message Request)) (at : ℤ) (k : RequestKind) → at ≢ id → IsTaken slots taken at k → IsTaken (put slots id what) taken at k
taken_kept slots id what taken at k ne t = record {
  request = t.request;
  last = t.last;
  stream = t.stream;
  kind = t.kind;
  known = known_kept slots id what t.request (λ e. ne (sym t.stream ∙ e)) t.known;
}

served_kept : (slots : List (Option OpenRequest)) (served : List (Option RequestKind)) (id : ℤ) (what : Option OpenRequest) (r : Request) → r.ticket.id ≢ id → IsServed slots served r → IsServed (put slots id what) served r
served_kept slots served id what r ne s = record { known = known_kept slots id what r ne s.known; kind = s.kind; there = s.there }

-- a server's slot that is written under another id
served_written : (slots : List (Option OpenRequest)) (served : List (Option RequestKind)) (id : ℤ) (what : Option RequestKind) (r : Request) → r.ticket.id ≢ id → IsServed slots served r → IsServed slots (put served id what) r
served_written slots served id what r ne s = record { known = s.known; kind = s.kind; there = under_put_other served id r.ticket.id what ne ∙ s.there }

flights_sent : (up : List (Message Request)) (served : List (Option RequestKind)) (down : List (Message (Option Request))) (r : Request) (id : ℤ) → flights (up ++ request_message r ∷ []) served down id ≡ flights up served down id + cond (int_eq r.ticket.id id) 1 0
flights_sent up served down r id = omega (arith, count-push (is_sent_under id) up (request_message r))

once_sent : (w : World) (r : Request) → IsPaired w → under w.client.slots r.ticket.id ≡ None → (id : ℤ) → flights (w.up ++ request_message r ∷ []) w.server.slots w.down id ≤ 1
once_sent w r p free id =
    let more = flights_sent w.up w.server.slots w.down r id in
    elim (cases_int r.ticket.id id) [
      | inl same ↦
          let none = subst (λ (i : ℤ). flights w.up w.server.slots w.down i ≡ 0) same (none_flies w r.ticket.id p free) in
          let one = rw (ap (λ (i : ℤ). int_eq i id) same, int_eq_same id) at more in
          omega (arith, none, one)
      | inr other ↦
          let none = rw (int_eq_other r.ticket.id id other) at more in
          omega (arith, none, p.once id)
    ]

paired_sent : (w : World) (k : RequestKind) (o : Result Ticket BeginError) → IsPaired w → ticket_for w.client k ≡ o → IsPaired (sent w k o)
paired_sent w k (Err e) p is = p
paired_sent w k (Ok t) p is =
    let slots = w.client.slots in
    let at = ticket_found w.client k t is in
    let entry : OpenRequest = record { number = t.number; kind = k; cancelled = false } in
    let r : Request = record { ticket = t; kind = k } in
    let known : IsKnown (put slots t.id (Some entry)) r = record { entry = entry; there = under_put_same slots t.id (Some entry) at.has; number = refl; kind = refl } in
    let apart = λ (q : Request) (h : IsKnown slots q). known_apart slots t.id q at.free h in
    record {
      up = each_push _ w.up (request_message r) (each_weaker _ _ w.up (kept_sent slots t.id (Some entry) at.free) p.up) (record { seen = refl; known = known });
      down = each_weaker _ _ w.down (λ m h. coming_kept slots t.id (Some entry) m.seen m.tag (not_coming slots t.id m.seen m.tag at.free h) h) p.down;
      taken = λ id j e. taken_kept slots t.id (Some entry) w.taken id j (λ same. let tk = p.taken id j e in known_apart slots t.id tk.request at.free tk.known (tk.stream ∙ same)) (p.taken id j e);
      once = once_sent w r p at.free;
      waiting = (known, each_weaker _ _ w.waiting (λ q h. known_kept slots t.id (Some entry) q (apart q h) h) p.waiting);
      waiting_apart = (each_weaker _ _ w.waiting (λ q h e. apart q h (sym e)) p.waiting, p.waiting_apart);
      numbers = (omega arith, each_weaker _ _ w.waiting (λ q h. omega (arith, h, at.number)) p.numbers);
      numbers_apart = (each_weaker _ _ w.waiting (λ q h e. absurd (omega (arith, h, at.number, e))) p.numbers, p.numbers_apart);
      serving = each_weaker _ _ w.serving (λ q h. served_kept slots w.server.slots t.id (Some entry) q (apart q h.known) h) p.serving;
      serving_apart = p.serving_apart;
    }

-- ---- a request comes to the server

-- what `accept` has found out of a request
pub record IsAccepted (c : ServerCore) (s : Signal) (r : Request) (k : RequestKind) : Type 0 where
  pub kind : k ≡ r.kind
  pub has : has_slot c.slots s.stream ≡ true
  pub free : under c.slots s.stream ≡ None
  pub may : may_begin c.phase r.kind ≡ true

pub kind_of_opcode : (k : RequestKind) → kind_of (opcode_of k) ≡ Some k
kind_of_opcode kind.Startup = refl
kind_of_opcode kind.Options = refl
kind_of_opcode kind.Query = refl
kind_of_opcode kind.Prepare = refl
kind_of_opcode kind.Execute = refl
kind_of_opcode kind.Batch = refl
kind_of_opcode kind.Register = refl
kind_of_opcode kind.AuthResponse = refl

free_is : {A : Type 0} (o : Option A) → is_none o ≡ true → o ≡ None
free_is None e = refl
free_is (Some a) e = cc

accept_kind_found : (c : ServerCore) (s : Signal) (r : Request) (k : RequestKind) → accept_kind c s.stream (Some r.kind) ≡ Ok k → IsAccepted c s r k
accept_kind_found c s r k is = elim (cases_Bool (has_slot c.slots s.stream)) [
  | inl has ↦
      let then = rw has at is in
      elim (cases_Bool (is_none (under c.slots s.stream))) [
        | inl free ↦
            let next = rw free at then in
            elim (cases_Bool (may_begin c.phase r.kind)) [
              | inl may ↦ let same = rw may at next in record { kind = cc same; has = has; free = free_is _ free; may = may }
              | inr not ↦ absurd (cc (rw not at next))
            ]
        | inr held ↦ absurd (cc (rw held at then))
      ]
  | inr past ↦ absurd (cc (rw past at is))
]

pub accept_found : (c : ServerCore) (s : Signal) (r : Request) (k : RequestKind) → s ≡ (request_message r).seen → accept_of c s ≡ Ok k → IsAccepted c s r k
accept_found c s r k seen is =
    let known : kind_of s.opcode ≡ Some r.kind = ap (λ (s : Signal). kind_of s.opcode) seen ∙ kind_of_opcode r.kind in
    let request : s.response ≡ false = ap (λ (s : Signal). s.response) seen in
    accept_kind_found c s r k (rw (request, known) at is)

taken_is : (taken : List (Message Request)) (m : Message Request) → last_under m.seen.stream (m ∷ taken) ≡ Some m.tag
taken_is taken m = rw (int_eq_same m.seen.stream) refl

taken_other : (taken : List (Message Request)) (m : Message Request) (id : ℤ) → m.seen.stream ≢ id → last_under id (m ∷ taken) ≡ last_under id taken
taken_other taken m id ne = rw (int_eq_other m.seen.stream id ne) refl

paired_accepted : (w : World) (m : Message Request) (rest : List (Message Request)) (k : RequestKind) → IsPaired w → w.up ≡ m ∷ rest → IsSent w.client.slots m → IsAccepted w.server m.seen m.tag k → IsPaired (taken_in w m rest (Ok k))
paired_accepted w m rest k p e sent found =
    let served = w.server.slots in
    let at = m.seen.stream in
    let stream : at ≡ m.tag.ticket.id = ap (λ (s : Signal). s.stream) sent.seen in
    record {
      up = (subst (AllByRecursion (IsSent w.client.slots)) e p.up).1;
      down = p.down;
      taken = λ id j there. elim (cases_int at id) [
        | inl same ↦ record {
          request = m.tag;
          last = subst (λ (i : ℤ). last_under i (m ∷ w.taken) ≡ Some m.tag) same (taken_is w.taken m);
          stream = sym stream ∙ same;
          kind =
              let here = subst (λ (i : ℤ). under (put served at (Some k)) i ≡ Some k) same (under_put_same served at (Some k) found.has) in
              let kinds : k ≡ j = cc (here, there) in
              sym found.kind ∙ kinds;
          known = sent.known;
        }
        | inr other ↦
            let before = p.taken id j (sym (under_put_other served at id (Some k) (λ e. other (sym e))) ∙ there) in
            record { request = before.request; last = taken_other w.taken m id other ∙ before.last; stream = before.stream; kind = before.kind; known = before.known }
      ];
      once = λ id.
          let before = subst (λ (u : List (Message Request)). flights u served w.down id ≤ 1) e (p.once id) in
          elim (cases_int at id) [
            | inl same ↦
                let free = subst (λ (i : ℤ). present (under served i) ≡ 0) same (ap present found.free) in
                let held = subst (λ (i : ℤ). present (under (put served at (Some k)) i) ≡ 1) same (ap present (under_put_same served at (Some k) found.has)) in
                let came : is_sent_under id m ≡ true = ap (λ (i : ℤ). int_eq i id) (sym stream ∙ same) ∙ int_eq_same id in
                let counted = rw came at before in
                omega (arith, free, held, counted)
            | inr other ↦
                let held = ap present (under_put_other served at id (Some k) (λ e. other (sym e))) in
                omega (arith, before, held)
          ];
      waiting = p.waiting;
      waiting_apart = p.waiting_apart;
      numbers = p.numbers;
      numbers_apart = p.numbers_apart;
      serving = (
        record { known = sent.known; kind = k; there = subst (λ (i : ℤ). under (put served at (Some k)) i ≡ Some k) stream (under_put_same served at (Some k) found.has) },
        each_weaker _ _ w.serving (λ q h. served_written w.client.slots served at (Some k) q (λ e. let same = ap (under served) e in absurd (cc (same, h.there, found.free))) h) p.serving,
      );
      serving_apart = (each_weaker _ _ w.serving (λ q h e. let same = ap (under served) (stream ∙ e) in absurd (cc (same, h.there, found.free))) p.serving, p.serving_apart);
    }

paired_taken : (w : World) (m : Message Request) (rest : List (Message Request)) (o : Result RequestKind ServerRefusal) → IsPaired w → w.up ≡ m ∷ rest → accept_of w.server m.seen ≡ o → IsPaired (taken_in w m rest o)
paired_taken w m rest (Ok k) p e is =
    let sent = (subst (AllByRecursion (IsSent w.client.slots)) e p.up).0 in
    paired_accepted w m rest k p e sent (accept_found w.server m.seen m.tag k sent.seen is)
paired_taken w m rest (Err x) p e is = record {
  up = (subst (AllByRecursion (IsSent w.client.slots)) e p.up).1;
  down = p.down;
  taken = p.taken;
  once = λ id. let before = subst (λ (u : List (Message Request)). flights u w.server.slots w.down id ≤ 1) e (p.once id) in omega (arith, before);
  waiting = p.waiting;
  waiting_apart = p.waiting_apart;
  numbers = p.numbers;
  numbers_apart = p.numbers_apart;
  serving = p.serving;
  serving_apart = p.serving_apart;
}

paired_delivered_up : (w : World) (ms : List (Message Request)) → IsPaired w → w.up ≡ ms → IsPaired (delivered_up w ms)
paired_delivered_up w [] p e = p
paired_delivered_up w (m ∷ rest) p e = paired_taken w m rest _ p e refl

-- ---- the server answers

pub record IsAnswered (c : ServerCore) (id : ℤ) (o : Opcode) (k : RequestKind) : Type 0 where
  pub there : under c.slots id ≡ Some k
  pub fits : answers k o ≡ true

answer_for_found : (c : ServerCore) (id : ℤ) (o : Opcode) (k : RequestKind) (there : Option RequestKind) → under c.slots id ≡ there → answer_for o there ≡ Ok k → IsAnswered c id o k
answer_for_found c id o k None e is = absurd (cc is)
answer_for_found c id o k (Some j) e is = elim (cases_Bool (answers j o)) [
  | inl fits ↦
      let same = rw fits at is in
      let kinds : j ≡ k = cc same in
      record { there = e ∙ ap Some kinds; fits = ap (λ k. answers k o) (sym kinds) ∙ fits }
  | inr not ↦ absurd (cc (rw not at is))
]

pub answer_found : (c : ServerCore) (id : ℤ) (o : Opcode) (k : RequestKind) → answer_of c id o ≡ Ok k → IsAnswered c id o k
answer_found c id o k is = answer_for_found c id o k (under c.slots id) refl is

-- a request that another number's removal leaves has another id
apart_left : (slots : List (Option OpenRequest)) (r q : Request) → IsKnown slots r → IsKnown slots q → not (eqb q.ticket.number r.ticket.number) ≡ true → q.ticket.id ≢ r.ticket.id
apart_left slots r q known h left e =
    let same = eq-eqb q.ticket.number r.ticket.number (known_number slots r q known h e) in
    absurd (cc (left, ap not same))

without_known : (slots : List (Option OpenRequest)) (P : Request → Type 0) (known_of : (q : Request) → P q → IsKnown slots q) (r : Request) (rs : List Request) → IsKnown slots r → AllByRecursion P rs → AllByRecursion (λ q. P q × (q.ticket.id ≢ r.ticket.id)) (without (Some r) rs)
without_known slots P known_of r rs known h =
    each_weaker _ _ (without (Some r) rs) (λ q k. (k.0, apart_left slots r q known (known_of q k.0) k.1)) (each_filtered P (λ q. not (eqb q.ticket.number r.ticket.number)) rs h)

paired_answered : (w : World) (id : ℤ) (o : Opcode) (k : RequestKind) (tag : Option Request) (t : IsTaken w.client.slots w.taken id k) → IsPaired w → tag ≡ Some t.request → IsAnswered w.server id o k
    → IsPaired (record w { server = answered w.server id o (Ok k); down = w.down ++ answer_message id o tag ∷ []; serving = without tag w.serving })
paired_answered w id o k None t p e found = absurd (cc e)
paired_answered w id o k (Some r) t p e found =
    let served = w.server.slots in
    let requests : r ≡ t.request = cc e in
    let known : IsKnown w.client.slots r = subst (IsKnown w.client.slots) (sym requests) t.known in
    let stream : r.ticket.id ≡ id = ap (λ (r : Request). r.ticket.id) requests ∙ t.stream in
    let kinds : r.kind ≡ k = ap (λ (r : Request). r.kind) requests ∙ t.kind in
    let m = answer_message id o (Some r) in
    let freed : under (put served id None) id ≡ None = under_put_same served id None (has_taken served id k found.there) in
    record {
      up = p.up;
      down = each_push _ w.down m p.down (record { response = refl; stream = sym stream; fits = ap (λ k. answers k o) kinds ∙ found.fits; known = known });
      taken = λ at j there. elim (cases_int at id) [
        | inl same ↦ absurd (cc (freed, there))
        | inr other ↦ p.taken at j (sym (under_put_other served id at None other) ∙ there)
      ];
      once = λ at.
          let more = count-push (is_coming_under at) w.down m in
          let before = p.once at in
          elim (cases_int at id) [
            | inl same ↦
                let gone = ap present (ap (under (put served id None)) same ∙ freed) in
                let conformed = ap present (ap (under served) same ∙ found.there) in
                omega (arith, more, before, gone, conformed, one_at_most (int_eq r.ticket.id at))
            | inr other ↦
                let stays = ap present (under_put_other served id at None other) in
                let passed = rw (int_eq_other r.ticket.id at (λ e. other (sym e ∙ stream))) at more in
                omega (arith, passed, before, stays)
          ];
      waiting = p.waiting;
      waiting_apart = p.waiting_apart;
      numbers = p.numbers;
      numbers_apart = p.numbers_apart;
      serving =
          each_weaker _ _ (without (Some r) w.serving)
          (λ q h. served_written w.client.slots served id None q (λ e. h.1 (e ∙ sym stream)) h.0)
          (without_known w.client.slots (IsServed w.client.slots served) (λ q h. h.known) r w.serving known p.serving);
      serving_apart = pairs_filtered HaveOtherIds (λ q. not (eqb q.ticket.number r.ticket.number)) w.serving p.serving_apart;
    }
  where
    one_at_most : (b : Bool) → cond b 1 0 ≤ 1
    one_at_most true = omega arith
    one_at_most false = omega arith

paired_responded : (w : World) (id : ℤ) (o : Opcode) (r : Result RequestKind AnswerError) → IsPaired w → answer_of w.server id o ≡ r → IsPaired (responded w id o r)
paired_responded w id o (Err x) p is = p
paired_responded w id o (Ok k) p is =
    let found = answer_found w.server id o k is in
    let t = p.taken id k found.there in
    paired_answered w id o k (last_under id w.taken) t p t.last found

-- ---- an event is pushed

paired_pushed : (w : World) → IsPaired w → IsPaired (happens w Push)
paired_pushed w p = record {
  up = p.up;
  down = each_push _ w.down event_message p.down refl;
  taken = p.taken;
  once = λ id. omega (arith, count-push (is_coming_under id) w.down event_message, p.once id);
  waiting = p.waiting;
  waiting_apart = p.waiting_apart;
  numbers = p.numbers;
  numbers_apart = p.numbers_apart;
  serving = p.serving;
  serving_apart = p.serving_apart;
}

-- ---- a response comes to the client

pub no_event : (k : RequestKind) (o : Opcode) → answers k o ≡ true → is_event o ≡ false
no_event kind.Startup opcode.Event e = cc e
no_event kind.Options opcode.Event e = cc e
no_event kind.Query opcode.Event e = cc e
no_event kind.Prepare opcode.Event e = cc e
no_event kind.Execute opcode.Event e = cc e
no_event kind.Batch opcode.Event e = cc e
no_event kind.Register opcode.Event e = cc e
no_event kind.AuthResponse opcode.Event e = cc e
no_event k o e = refl

-- what a client answers to the reply to this request
abbrev pub reported : Signal → OpenRequest → Reply
reported s o = let ticket : Ticket = record { id = s.stream; number = o.number } in cond o.cancelled (reply.Dropped ticket) (reply.Answer ticket o.kind)

pub reply_reported : (c : ClientCore) (s : Signal) (r : Request) (a : IsAnswerTo c.slots s r) → reply_to c s ≡ Ok (reported s a.known.entry)
reply_reported c s r a =
    let event = no_event r.kind s.opcode a.fits in
    let there : under c.slots s.stream ≡ Some a.known.entry = ap (under c.slots) a.stream ∙ a.known.there in
    let fits : answers a.known.entry.kind s.opcode ≡ true = ap (λ k. answers k s.opcode) a.known.kind ∙ a.fits in
    rw (a.response, event, there, fits) refl

-- the client once the request is answered
abbrev pub freed : ClientCore → Signal → OpenRequest → ClientCore
freed c s o = record { phase = phase_answered c.phase o.kind s.opcode; begun = c.begun; slots = put c.slots s.stream None }

replied_reported : (c : ClientCore) (s : Signal) (o : OpenRequest) (cancelled : Bool) → o.cancelled ≡ cancelled → replied c s (Ok (reported s o)) ≡ closed c s (under c.slots s.stream)
replied_reported c s o true e = rw e refl
replied_reported c s o false e = rw e refl

pub replied_freed : (c : ClientCore) (s : Signal) (r : Request) (a : IsAnswerTo c.slots s r) → replied c s (reply_to c s) ≡ freed c s a.known.entry
replied_freed c s r a =
    let there : under c.slots s.stream ≡ Some a.known.entry = ap (under c.slots) a.stream ∙ a.known.there in
    ap (replied c s) (reply_reported c s r a) ∙ replied_reported c s a.known.entry a.known.entry.cancelled refl ∙ ap (closed c s) there

other_id : (a id : ℤ) → int_eq a id ≡ false → a ≢ id
other_id a id isnt e = absurd (cc (ap (λ i. int_eq i id) e ∙ int_eq_same id, isnt))

-- nothing else is on its way under the id of a reply
pub record IsAlone (w : World) (rest : List (Message (Option Request))) (id : ℤ) : Type 0 where
  pub up : AllByRecursion (λ m. is_sent_under id m ≡ false) w.up
  pub served : under w.server.slots id ≡ None
  pub down : AllByRecursion (λ m. is_coming_under id m ≡ false) rest

pub absent : {A : Type 0} (o : Option A) → present o ≡ 0 → o ≡ None
absent None e = refl
absent (Some a) e = cc

reply_alone : (w : World) (m : Message (Option Request)) (rest : List (Message (Option Request))) (id : ℤ) → IsPaired w → w.down ≡ m ∷ rest → is_coming_under id m ≡ true → IsAlone w rest id
reply_alone w m rest id p e came =
    let before = subst (λ (d : List (Message (Option Request))). flights w.up w.server.slots d id ≤ 1) e (p.once id) in
    let counted = rw came at before in
    record {
      up = none_counted (is_sent_under id) w.up (omega (arith, counted));
      served = absent (under w.server.slots id) (omega (arith, counted));
      down = none_counted (is_coming_under id) rest (omega (arith, counted));
    }

paired_freed : (w : World) (m : Message (Option Request)) (rest : List (Message (Option Request))) (r : Request) → IsPaired w → w.down ≡ m ∷ rest → AllByRecursion (IsComing w.client.slots) rest → (a : IsAnswerTo w.client.slots m.seen r) → IsAlone w rest m.seen.stream
    → IsPaired (record w { client = freed w.client m.seen a.known.entry; down = rest; waiting = without (Some r) w.waiting })
paired_freed w m rest r p e coming a alone =
    let slots = w.client.slots in
    let id = m.seen.stream in
    record {
      up = each_weaker _ _ w.up (λ q h. record { seen = h.0.seen; known = known_kept slots id None q.tag (other_id q.tag.ticket.id id h.1) h.0.known }) (each_both _ _ w.up p.up alone.up);
      down = each_weaker _ _ rest (λ q h. coming_kept slots id None q.seen q.tag h.1 h.0) (each_both _ _ rest coming alone.down);
      taken = λ at k there. taken_kept slots id None w.taken at k (λ same. let here = ap (under w.server.slots) same in absurd (cc (here, alone.served, there))) (p.taken at k there);
      once = λ at. let before = subst (λ (d : List (Message (Option Request))). flights w.up w.server.slots d at ≤ 1) e (p.once at) in omega (arith, before);
      waiting =
          each_weaker _ _ (without (Some r) w.waiting) (λ q h. known_kept slots id None q (λ same. h.1 (same ∙ a.stream)) h.0)
          (without_known slots (IsKnown slots) (λ q h. h) r w.waiting a.known p.waiting);
      waiting_apart = pairs_filtered HaveOtherIds (λ q. not (eqb q.ticket.number r.ticket.number)) w.waiting p.waiting_apart;
      numbers = each_weaker _ _ (without (Some r) w.waiting) (λ q h. h.0) (each_filtered _ (λ q. not (eqb q.ticket.number r.ticket.number)) w.waiting p.numbers);
      numbers_apart = pairs_filtered HaveOtherNumbers (λ q. not (eqb q.ticket.number r.ticket.number)) w.waiting p.numbers_apart;
      serving = each_weaker _ _ w.serving (λ q h. served_kept slots w.server.slots id None q (λ same. let here = ap (under w.server.slots) same in absurd (cc (here, alone.served, h.there))) h) p.serving;
      serving_apart = p.serving_apart;
    }

paired_came : (w : World) (m : Message (Option Request)) (rest : List (Message (Option Request))) (tag : Option Request) → IsPaired w → w.down ≡ m ∷ rest → m.tag ≡ tag → IsComingAs w.client.slots m.seen tag → AllByRecursion (IsComing w.client.slots) rest
    → IsPaired (record w { client = replied w.client m.seen (reply_to w.client m.seen); down = rest; waiting = without tag w.waiting })
paired_came w m rest None p e tagged came coming =
    let same : replied w.client m.seen (reply_to w.client m.seen) ≡ w.client = ap (λ s. replied w.client s (reply_to w.client s)) came in
    subst (λ (c : ClientCore). IsPaired (record w { client = c; down = rest; waiting = w.waiting })) (sym same) (record {
      up = p.up;
      down = coming;
      taken = p.taken;
      once = λ at. let before = subst (λ (d : List (Message (Option Request))). flights w.up w.server.slots d at ≤ 1) e (p.once at) in omega (arith, before);
      waiting = p.waiting;
      waiting_apart = p.waiting_apart;
      numbers = p.numbers;
      numbers_apart = p.numbers_apart;
      serving = p.serving;
      serving_apart = p.serving_apart;
    })
paired_came w m rest (Some r) p e tagged came coming =
    let id = m.seen.stream in
    let under_it : is_coming_under id m ≡ true = ap (is_tagged_under id) tagged ∙ ap (λ (i : ℤ). int_eq i id) (sym came.stream) ∙ int_eq_same id in
    subst (λ (c : ClientCore). IsPaired (record w { client = c; down = rest; waiting = without (Some r) w.waiting })) (sym (replied_freed w.client m.seen r came))
    (paired_freed w m rest r p e coming came (reply_alone w m rest id p e under_it))

paired_delivered_down : (w : World) (ms : List (Message (Option Request))) → IsPaired w → w.down ≡ ms → IsPaired (delivered_down w ms)
paired_delivered_down w [] p e = p
paired_delivered_down w (m ∷ rest) p e =
    let coming = subst (AllByRecursion (IsComing w.client.slots)) e p.down in
    paired_came w m rest m.tag p e refl coming.0 coming.1

-- ---- a request is cancelled

-- whatever is under an id, marked
known_marked : (slots : List (Option OpenRequest)) (id : ℤ) (r : Request) → IsKnown slots r → IsKnown (put slots id (option_map marked (under slots id))) r
known_marked slots id r k = elim (cases_int r.ticket.id id) [
  | inl same ↦
      let here : under slots id ≡ Some k.entry = ap (under slots) (sym same) ∙ k.there in
      let written = under_put_same slots id (option_map marked (under slots id)) (has_taken slots id k.entry here) in
      record {
        entry = marked k.entry;
        there = ap (under (put slots id (option_map marked (under slots id)))) same ∙ written ∙ ap (option_map marked) here;
        number = k.number;
        kind = k.kind;
      }
  | inr other ↦ known_kept slots id (option_map marked (under slots id)) r other k
]

coming_marked : (slots : List (Option OpenRequest)) (id : ℤ) (s : Signal) (tag : Option Request) → IsComingAs slots s tag → IsComingAs (put slots id (option_map marked (under slots id))) s tag
coming_marked slots id s None h = h
coming_marked slots id s (Some r) h = record { response = h.response; stream = h.stream; fits = h.fits; known = known_marked slots id r h.known }

paired_cancelled : (w : World) (t : Ticket) (r : Bool) → IsPaired w → IsPaired (record w { client = cancelled w.client t r })
paired_cancelled w t false p = p
paired_cancelled w t true p =
    let slots = w.client.slots in
    record {
      up = each_weaker _ _ w.up (λ m h. record { seen = h.seen; known = known_marked slots t.id m.tag h.known }) p.up;
      down = each_weaker _ _ w.down (λ m h. coming_marked slots t.id m.seen m.tag h) p.down;
      taken = λ id k there. let tk = p.taken id k there in record { request = tk.request; last = tk.last; stream = tk.stream; kind = tk.kind; known = known_marked slots t.id tk.request tk.known };
      once = p.once;
      waiting = each_weaker _ _ w.waiting (λ q h. known_marked slots t.id q h) p.waiting;
      waiting_apart = p.waiting_apart;
      numbers = p.numbers;
      numbers_apart = p.numbers_apart;
      serving = each_weaker _ _ w.serving (λ q h. record { known = known_marked slots t.id q h.known; kind = h.kind; there = h.there }) p.serving;
      serving_apart = p.serving_apart;
    }

-- ---- each step, and all of them

pub paired_happens : (w : World) (s : Step) → IsPaired w → IsPaired (happens w s)
paired_happens w (Send k) p = paired_sent w k (ticket_for w.client k) p refl
paired_happens w Deliver_up p = paired_delivered_up w w.up p refl
paired_happens w (Answer id o) p = paired_responded w id o (answer_of w.server id o) p refl
paired_happens w Push p = paired_pushed w p
paired_happens w Deliver_down p = paired_delivered_down w w.down p refl
paired_happens w (Cancel t) p = paired_cancelled w t (cancels w.client t) p

pub paired_run : (steps : List Step) (w : World) → IsPaired w → IsPaired (run steps w)
paired_run [] w p = p
paired_run (s ∷ steps) w p = paired_run steps (happens w s) (paired_happens w s p)
