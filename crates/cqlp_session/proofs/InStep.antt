-- The phases of two cores, where the server has at least as many slots as the client: what is on its way is what its
-- receiver waits for.
use Rattle.std.proofs.Common.{◌≡◌, ℕ, ◌+◌, ◌<◌, ◌≤◌, Bool, true, false, List, [], ◌∷◌, ◌++◌, zero, suc, Option, Some, None, Ok, Err, Result, length, replicate, cond, arith, refl, ap, ◌∙◌, sym, subst, inl, inr, ℤ, pos, negsuc}
use Rattle.std.specs.Prelude.{is_none, IsOk, option_map}
use Rattle.std.specs.List.{AllByRecursion}
use Rattle.std.proofs.lemmas.Bool.{cases_Bool, lt-ltb, ltb-true}
use Rattle.std.proofs.lemmas.List.{length-replicate}
use Rattle.cqlp_note.specs.declared.opcode.Opcode.{Opcode}
use Rattle.cqlp_note.specs.declared.opcode.Opcode.TheVariants as opcode
use Rattle.cqlp_session.specs.declared.kind.RequestKind.{RequestKind}
use Rattle.cqlp_session.specs.declared.kind.RequestKind.TheVariants as kind
use Rattle.cqlp_session.specs.declared.phase.Phase.{Phase}
use Rattle.cqlp_session.specs.declared.phase.Phase.TheVariants.{Fresh, Opening, Challenged, Ready, Failed}
use Rattle.cqlp_session.specs.declared.streams.OpenRequest.{OpenRequest}
use Rattle.cqlp_session.specs.declared.ticket.Ticket.{Ticket}
use Rattle.cqlp_session.specs.declared.ticket.BeginError.{BeginError}
use Rattle.cqlp_session.specs.declared.server.ServerRefusal.{ServerRefusal}
use Rattle.cqlp_session.specs.declared.server.AnswerError.{AnswerError}
use Rattle.cqlp_session.specs.Kind.{answers, is_handshake, kind_of}
use Rattle.cqlp_session.specs.Phase.{may_begin, phase_begun, phase_answered}
use Rattle.cqlp_session.specs.Signal.{Signal}
use Rattle.cqlp_session.specs.Slots.{has_slot, put, put as put_at, under}
use Rattle.cqlp_session.specs.Client.{ClientCore, cancelled, cancels, is_cancellable, marked, replied, reply_to, ticket_for}
use Rattle.cqlp_session.specs.Server.{ServerCore, accept_of, answer_of}
use Rattle.cqlp_session.specs.World.{World, Step, Send, Deliver_up, Answer, Push, Deliver_down, Cancel, Request, Message, request_message, answer_message, event_message, sent, taken_in, delivered_up, last_under, without, responded, delivered_down, happens, run, start}
use Rattle.cqlp_session.specs.Pairing.{IfNext, NoneIsRefused}
use Rattle.cqlp_session.proofs.Sentences.{replies_taken}
use Rattle.cqlp_session.proofs.Under.{int_eq_same, count, count-set, has_taken, length_put}
use Rattle.cqlp_session.proofs.Paired.{IsAccepted, IsAnswered, IsComing, IsComingAs, IsKnown, IsPaired, IsSent, IsTaken, absent, answer_found, kind_of_opcode, paired_happens, replied_freed, ticket_found, ticket_may, flights}

-- ---- phases

-- 1 while a handshake's reply is awaited
abbrev pub opening : Phase → ℕ
opening Opening = 1
opening p = 0

abbrev pub weight : RequestKind → ℕ
weight k = cond (is_handshake k) 1 0

pub opening_begun : (p : Phase) (k : RequestKind) → may_begin p k ≡ true → (opening p ≡ 0) × (opening (phase_begun p k) ≡ weight k)
opening_begun Fresh kind.Startup may = (refl, refl)
opening_begun Fresh kind.Options may = (refl, refl)
opening_begun Fresh k may = absurd (cc may)
opening_begun Challenged kind.AuthResponse may = (refl, refl)
opening_begun Challenged k may = absurd (cc may)
opening_begun Ready kind.Startup may = absurd (cc may)
opening_begun Ready kind.AuthResponse may = absurd (cc may)
opening_begun Ready k may = (refl, refl)
opening_begun Opening k may = absurd (cc may)
opening_begun Failed k may = absurd (cc may)

-- only a handshake's answer changes the phase
pub phase_kept : (p : Phase) (k : RequestKind) (o : Opcode) → is_handshake k ≡ false → phase_answered p k o ≡ p
phase_kept p kind.Startup o e = absurd (cc e)
phase_kept p kind.AuthResponse o e = absurd (cc e)
phase_kept p k o e = refl

pub phase_begins : (p : Phase) (k : RequestKind) → is_handshake k ≡ false → phase_begun p k ≡ p
phase_begins p kind.Startup e = absurd (cc e)
phase_begins p kind.AuthResponse e = absurd (cc e)
phase_begins p k e = refl

-- it ends the wait
pub opening_answered : (p : Phase) (k : RequestKind) (o : Opcode) → is_handshake k ≡ true → answers k o ≡ true → opening (phase_answered p k o) ≡ 0
opening_answered p kind.Startup opcode.Ready h fits = refl
opening_answered p kind.Startup opcode.Authenticate h fits = refl
opening_answered p kind.Startup opcode.Error h fits = refl
opening_answered p kind.AuthResponse opcode.AuthSuccess h fits = refl
opening_answered p kind.AuthResponse opcode.AuthChallenge h fits = refl
opening_answered p kind.AuthResponse opcode.Error h fits = refl
opening_answered p kind.Startup o h fits = absurd (cc fits)
opening_answered p kind.AuthResponse o h fits = absurd (cc fits)
opening_answered p k o h fits = absurd (cc h)

pub opening_is : (p : Phase) → 0 < opening p → p ≡ Opening
opening_is Opening lt = refl
opening_is p lt = absurd (omega arith)

opening_le : (p : Phase) → opening p ≤ 1
opening_le Opening = omega arith
opening_le p = omega arith

-- the handshakes that are open, once a request has begun, or is answered
opening_more : (p : Phase) (k : RequestKind) (before after : ℕ) → may_begin p k ≡ true → before ≡ opening p → after ≡ before + weight k → after ≡ opening (phase_begun p k)
opening_more p k before after may e more = let at = opening_begun p k may in omega (arith, at.0, at.1)

opening_less : (p : Phase) (k : RequestKind) (o : Opcode) (before after : ℕ) → answers k o ≡ true → before ≡ opening p → after + weight k ≡ before → after ≡ opening (phase_answered p k o)
opening_less p k o before after fits e less = elim (cases_Bool (is_handshake k)) [
  | inl is ↦
      let one = rw is at less in
      omega (arith, one, opening_le p, opening_answered p k o is fits)
  | inr isnt ↦
      let none = rw isnt at less in
      omega (arith, none, ap opening (phase_kept p k o isnt))
]

-- ---- slots

abbrev pub is_busy : Option OpenRequest → Bool
is_busy None = false
is_busy (Some o) = is_handshake o.kind

abbrev pub is_busy_kind : Option RequestKind → Bool
is_busy_kind None = false
is_busy_kind (Some k) = is_handshake k

count_put : {A : Type 0} (p : Option A → Bool) (slots : List (Option A)) (id : ℤ) (what : Option A) → has_slot slots id ≡ true → count p (put slots id what) + cond (p (under slots id)) 1 0 ≡ count p slots + cond (p what) 1 0
count_put p slots (pos i) what has = count-set p slots i what None (ltb-true i (length slots) has)
count_put p slots (negsuc i) what has = absurd (cc has)

has_wider : {A B : Type 0} (slots : List (Option A)) (others : List (Option B)) (id : ℤ) → has_slot slots id ≡ true → length slots ≤ length others → has_slot others id ≡ true
has_wider slots others (pos i) has wider = let lt = ltb-true i (length slots) has in lt-ltb i (length others) (omega arith)
has_wider slots others (negsuc i) has wider = absurd (cc has)

-- ---- what is on its way

-- the phase once all of these are accepted, and once all of these are delivered
abbrev pub accepts_all : Phase → List (Message Request) → Phase
accepts_all p [] = p
accepts_all p (m ∷ rest) = accepts_all (phase_begun p m.tag.kind) rest

abbrev pub reported_phase : Phase → Opcode → Option Request → Phase
reported_phase p o None = p
reported_phase p o (Some r) = phase_answered p r.kind o

abbrev pub replies_all : Phase → List (Message (Option Request)) → Phase
replies_all p [] = p
replies_all p (m ∷ rest) = replies_all (reported_phase p m.seen.opcode m.tag) rest

-- each may begin in its turn
abbrev pub MayAll : Phase → List (Message Request) → Type 0
MayAll p [] = Unit {0}
MayAll p (m ∷ rest) = (may_begin p m.tag.kind ≡ true) × MayAll (phase_begun p m.tag.kind) rest

may_push : (p : Phase) (up : List (Message Request)) (m : Message Request) → MayAll p up → may_begin (accepts_all p up) m.tag.kind ≡ true → MayAll p (up ++ m ∷ [])
may_push p [] m h may = (may, tt)
may_push p (x ∷ up) m h may = (h.0, may_push (phase_begun p x.tag.kind) up m h.1 may)

accepts_push : (p : Phase) (up : List (Message Request)) (m : Message Request) → accepts_all p (up ++ m ∷ []) ≡ phase_begun (accepts_all p up) m.tag.kind
accepts_push p [] m = refl
accepts_push p (x ∷ up) m = accepts_push (phase_begun p x.tag.kind) up m

replies_push : (p : Phase) (down : List (Message (Option Request))) (m : Message (Option Request)) → replies_all p (down ++ m ∷ []) ≡ reported_phase (replies_all p down) m.seen.opcode m.tag
replies_push p [] m = refl
replies_push p (x ∷ down) m = replies_push (reported_phase p x.seen.opcode x.tag) down m

none_may : (up : List (Message Request)) → MayAll Opening up → up ≡ []
none_may [] h = refl
none_may (m ∷ up) h = absurd (cc h.0)

pub record IsInStep (w : World) : Type 0 where
  pub room : length w.client.slots ≤ length w.server.slots
  pub may : MayAll w.server.phase w.up
  pub same : accepts_all w.server.phase w.up ≡ replies_all w.client.phase w.down
  pub client_opening : count is_busy w.client.slots ≡ opening w.client.phase
  pub server_opening : count is_busy_kind w.server.slots ≡ opening w.server.phase

none_busy : {A : Type 0} (p : Option A → Bool) (n : ℕ) → p None ≡ false → count p (replicate n None) ≡ 0
none_busy p zero e = refl
none_busy p (suc n) e = rw e (omega (arith, none_busy p n e))

pub start_in_step : (c s : ℕ) → c ≤ s → IsInStep (start c s)
start_in_step c s le = record {
  room = omega (arith, length-replicate {A = Option OpenRequest} c None, length-replicate {A = Option RequestKind} s None);
  may = tt;
  same = refl;
  client_opening = none_busy is_busy c refl;
  server_opening = none_busy is_busy_kind s refl;
}

-- no handshake is answered while none is awaited
not_handshake : (slots : List (Option OpenRequest)) (r : Request) → count is_busy slots ≡ 0 → IsKnown slots r → is_handshake r.kind ≡ false
not_handshake slots r quiet k = elim (cases_Bool (is_handshake r.kind)) [
  | inl is ↦
      let put = count_put is_busy slots r.ticket.id None (has_taken slots r.ticket.id k.entry k.there) in
      let busy : is_busy (under slots r.ticket.id) ≡ true = ap is_busy k.there ∙ ap is_handshake k.kind ∙ is in
      let counted = rw busy at put in
      absurd (omega (arith, counted))
  | inr isnt ↦ isnt
]

quiet_reported : (slots : List (Option OpenRequest)) (p : Phase) (s : Signal) (tag : Option Request) → count is_busy slots ≡ 0 → IsComingAs slots s tag → reported_phase p s.opcode tag ≡ p
quiet_reported slots p s None quiet h = refl
quiet_reported slots p s (Some r) quiet h = phase_kept p r.kind s.opcode (not_handshake slots r quiet h.known)

quiet_replies : (slots : List (Option OpenRequest)) (p : Phase) (down : List (Message (Option Request))) → count is_busy slots ≡ 0 → AllByRecursion (IsComing slots) down → replies_all p down ≡ p
quiet_replies slots p [] quiet h = refl
quiet_replies slots p (m ∷ down) quiet h = ap (λ q. replies_all q down) (quiet_reported slots p m.seen m.tag quiet h.0) ∙ quiet_replies slots p down quiet h.1

-- ---- a request begins

in_step_sent : (w : World) (k : RequestKind) (o : Result Ticket BeginError) → IsPaired w → IsInStep w → ticket_for w.client k ≡ o → IsInStep (sent w k o)
in_step_sent w k (Err e) p s is = s
in_step_sent w k (Ok t) p s is =
    let slots = w.client.slots in
    let phase = w.client.phase in
    let may = ticket_may w.client k t is in
    let at = ticket_found w.client k t is in
    let quiet : count is_busy slots ≡ 0 = s.client_opening ∙ (opening_begun phase k may).0 in
    let still = λ (q : Phase). quiet_replies slots q w.down quiet p.down in
    let front : accepts_all w.server.phase w.up ≡ phase = s.same ∙ still phase in
    let entry : Option OpenRequest = Some (record { number = t.number; kind = k; cancelled = false }) in
    let put = rw (ap is_busy at.free) at (count_put is_busy slots t.id entry at.has) in
    let m = request_message (record { ticket = t; kind = k }) in
    record {
      room = rw (length_put slots t.id entry) s.room;
      may = may_push w.server.phase w.up m s.may (ap (λ q. may_begin q k) front ∙ may);
      same = accepts_push w.server.phase w.up m ∙ ap (λ q. phase_begun q k) front ∙ sym (still (phase_begun phase k));
      client_opening = opening_more phase k _ _ may s.client_opening (omega (arith, put));
      server_opening = s.server_opening;
    }

-- ---- a request comes to the server

-- the next request is accepted
next_accepted : (w : World) (m : Message Request) (rest : List (Message Request)) → IsPaired w → IsInStep w → w.up ≡ m ∷ rest → IsAccepted w.server m.seen m.tag m.tag.kind
next_accepted w m rest p s e =
    let sent = (subst (AllByRecursion (IsSent w.client.slots)) e p.up).0 in
    let stream : m.seen.stream ≡ m.tag.ticket.id = ap (λ (s : Signal). s.stream) sent.seen in
    let id = m.tag.ticket.id in
    let before = subst (λ (u : List (Message Request)). flights u w.server.slots w.down id ≤ 1) e (p.once id) in
    let counted = rw (int_eq_same id) at before in
    let free : under w.server.slots id ≡ None = absent (under w.server.slots id) (omega (arith, counted)) in
    record {
      kind = refl;
      has = ap (has_slot w.server.slots) stream ∙ has_wider w.client.slots w.server.slots id (has_taken w.client.slots id sent.known.entry sent.known.there) s.room;
      free = ap (under w.server.slots) stream ∙ free;
      may = (subst (MayAll w.server.phase) e s.may).0;
    }

accepted_goes : (c : ServerCore) (s : Signal) (r : Request) → s ≡ (request_message r).seen → IsAccepted c s r r.kind → accept_of c s ≡ Ok r.kind
accepted_goes c s r seen a =
    let known : kind_of s.opcode ≡ Some r.kind = ap (λ (s : Signal). kind_of s.opcode) seen ∙ kind_of_opcode r.kind in
    let request : s.response ≡ false = ap (λ (s : Signal). s.response) seen in
    let free : is_none (under c.slots s.stream) ≡ true = ap is_none a.free in
    rw (request, known, a.has, free, a.may) refl

next_goes : (w : World) (m : Message Request) (rest : List (Message Request)) → IsPaired w → IsInStep w → w.up ≡ m ∷ rest → accept_of w.server m.seen ≡ Ok m.tag.kind
next_goes w m rest p s e = accepted_goes w.server m.seen m.tag (subst (AllByRecursion (IsSent w.client.slots)) e p.up).0.seen (next_accepted w m rest p s e)

in_step_taken : (w : World) (m : Message Request) (rest : List (Message Request)) → IsInStep w → w.up ≡ m ∷ rest → IsAccepted w.server m.seen m.tag m.tag.kind → IsInStep (taken_in w m rest (Ok m.tag.kind))
in_step_taken w m rest s e a =
    let served = w.server.slots in
    let k = m.tag.kind in
    let put = rw (ap is_busy_kind a.free) at (count_put is_busy_kind served m.seen.stream (Some k) a.has) in
    record {
      room = rw (length_put served m.seen.stream (Some k)) s.room;
      may = (subst (MayAll w.server.phase) e s.may).1;
      same = ap (accepts_all w.server.phase) (sym e) ∙ s.same;
      client_opening = s.client_opening;
      server_opening = opening_more w.server.phase k _ _ a.may s.server_opening (omega (arith, put));
    }

in_step_delivered_up : (w : World) (ms : List (Message Request)) → IsPaired w → IsInStep w → w.up ≡ ms → IsInStep (delivered_up w ms)
in_step_delivered_up w [] p s e = s
in_step_delivered_up w (m ∷ rest) p s e =
    subst (λ (o : Result RequestKind ServerRefusal). IsInStep (taken_in w m rest o)) (sym (next_goes w m rest p s e)) (in_step_taken w m rest s e (next_accepted w m rest p s e))

-- ---- the server answers

-- nothing is on its way to a server that awaits the answer to a handshake
behind_handshake : (w : World) (id : ℤ) (o : Opcode) (k : RequestKind) → IsInStep w → IsAnswered w.server id o k → is_handshake k ≡ true → (w.server.phase ≡ Opening) × (w.up ≡ [])
behind_handshake w id o k s found is =
    let served = w.server.slots in
    let busy : is_busy_kind (under served id) ≡ true = ap is_busy_kind found.there ∙ is in
    let counted = rw busy at (count_put is_busy_kind served id None (has_taken served id k found.there)) in
    let opens = opening_is w.server.phase (omega (arith, counted, s.server_opening)) in
    (opens, none_may w.up (subst (λ (q : Phase). MayAll q w.up) opens s.may))

in_step_answered : (w : World) (id : ℤ) (o : Opcode) (k : RequestKind) (t : IsTaken w.client.slots w.taken id k) → IsInStep w → IsAnswered w.server id o k → IsInStep (responded w id o (Ok k))
in_step_answered w id o k t s found =
    let served = w.server.slots in
    let q = w.server.phase in
    let there = ap is_busy_kind found.there in
    let put = rw there at (count_put is_busy_kind served id None (has_taken served id k found.there)) in
    let m = answer_message id o (last_under id w.taken) in
    let reported : reported_phase (replies_all w.client.phase w.down) o (last_under id w.taken) ≡ phase_answered (accepts_all q w.up) k o =
    ap (reported_phase (replies_all w.client.phase w.down) o) t.last
    ∙ ap (λ k. phase_answered (replies_all w.client.phase w.down) k o) t.kind
    ∙ ap (λ r. phase_answered r k o) (sym s.same) in
    let ends = replies_push w.client.phase w.down m ∙ reported in
    record {
      room = rw (length_put served id None) s.room;
      may = elim (cases_Bool (is_handshake k)) [
        | inl is ↦ subst (MayAll (phase_answered q k o)) (sym (behind_handshake w id o k s found is).1) tt
        | inr isnt ↦ subst (λ (r : Phase). MayAll r w.up) (sym (phase_kept q k o isnt)) s.may
      ];
      same = elim (cases_Bool (is_handshake k)) [
        | inl is ↦
            let none = (behind_handshake w id o k s found is).1 in
            ap (accepts_all (phase_answered q k o)) none ∙ ap (λ u. phase_answered (accepts_all q u) k o) (sym none) ∙ sym ends
        | inr isnt ↦
            ap (λ r. accepts_all r w.up) (phase_kept q k o isnt) ∙ sym (phase_kept (accepts_all q w.up) k o isnt) ∙ sym ends
      ];
      client_opening = s.client_opening;
      server_opening = opening_less q k o _ _ found.fits s.server_opening (omega (arith, put));
    }

in_step_responded : (w : World) (id : ℤ) (o : Opcode) (r : Result RequestKind AnswerError) → IsPaired w → IsInStep w → answer_of w.server id o ≡ r → IsInStep (responded w id o r)
in_step_responded w id o (Err x) p s is = s
in_step_responded w id o (Ok k) p s is =
    let found = answer_found w.server id o k is in
    in_step_answered w id o k (p.taken id k found.there) s found

-- ---- an event is pushed

in_step_pushed : (w : World) → IsInStep w → IsInStep (happens w Push)
in_step_pushed w s = record {
  room = s.room;
  may = s.may;
  same = s.same ∙ sym (replies_push w.client.phase w.down event_message);
  client_opening = s.client_opening;
  server_opening = s.server_opening;
}

-- ---- a response comes to the client

in_step_came : (w : World) (m : Message (Option Request)) (rest : List (Message (Option Request))) (tag : Option Request) → IsInStep w → w.down ≡ m ∷ rest → m.tag ≡ tag → IsComingAs w.client.slots m.seen tag
    → IsInStep (record w { client = replied w.client m.seen (reply_to w.client m.seen); down = rest; waiting = without tag w.waiting })
in_step_came w m rest None s e tagged came =
    let same : replied w.client m.seen (reply_to w.client m.seen) ≡ w.client = ap (λ s. replied w.client s (reply_to w.client s)) came in
    subst (λ (c : ClientCore). IsInStep (record w { client = c; down = rest; waiting = w.waiting })) (sym same) (record {
      room = s.room;
      may = s.may;
      same = s.same ∙ ap (replies_all w.client.phase) e ∙ ap (λ t. replies_all (reported_phase w.client.phase m.seen.opcode t) rest) tagged;
      client_opening = s.client_opening;
      server_opening = s.server_opening;
    })
in_step_came w m rest (Some r) s e tagged came =
    let slots = w.client.slots in
    let id = m.seen.stream in
    let entry = came.known.entry in
    let there : under slots id ≡ Some entry = ap (under slots) came.stream ∙ came.known.there in
    let put = rw (ap is_busy there) at (count_put is_busy slots id None (has_taken slots id entry there)) in
    let fits : answers entry.kind m.seen.opcode ≡ true = ap (λ k. answers k m.seen.opcode) came.known.kind ∙ came.fits in
    subst (λ (c : ClientCore). IsInStep (record w { client = c; down = rest; waiting = without (Some r) w.waiting })) (sym (replied_freed w.client m.seen r came)) (record {
      room = rw (length_put slots id None) s.room;
      may = s.may;
      same = s.same ∙ ap (replies_all w.client.phase) e ∙ ap (λ t. replies_all (reported_phase w.client.phase m.seen.opcode t) rest) tagged
          ∙ ap (λ k. replies_all (phase_answered w.client.phase k m.seen.opcode) rest) (sym came.known.kind);
      client_opening = opening_less w.client.phase entry.kind m.seen.opcode _ _ fits s.client_opening (omega (arith, put));
      server_opening = s.server_opening;
    })

in_step_delivered_down : (w : World) (ms : List (Message (Option Request))) → IsPaired w → IsInStep w → w.down ≡ ms → IsInStep (delivered_down w ms)
in_step_delivered_down w [] p s e = s
in_step_delivered_down w (m ∷ rest) p s e = in_step_came w m rest m.tag s e refl (subst (AllByRecursion (IsComing w.client.slots)) e p.down).0

-- ---- a request is cancelled

busy_marked : (o : Option OpenRequest) → is_busy (option_map marked o) ≡ is_busy o
busy_marked None = refl
busy_marked (Some o) = refl

cancels_taken : (slots : List (Option OpenRequest)) (number : ℕ) (id : ℤ) (o : Option OpenRequest) → under slots id ≡ o → is_cancellable number o ≡ true → has_slot slots id ≡ true
cancels_taken slots number id None e is = absurd (cc is)
cancels_taken slots number id (Some o) e is = has_taken slots id o e

in_step_cancelled : (w : World) (t : Ticket) (r : Bool) → IsInStep w → cancels w.client t ≡ r → IsInStep (record w { client = cancelled w.client t r })
in_step_cancelled w t false s e = s
in_step_cancelled w t true s e =
    let slots = w.client.slots in
    let what = option_map marked (under slots t.id) in
    let put = rw (busy_marked (under slots t.id)) at (count_put is_busy slots t.id what (cancels_taken slots t.number t.id (under slots t.id) refl e)) in
    record {
      room = rw (length_put slots t.id what) s.room;
      may = s.may;
      same = s.same;
      client_opening = let kept : count is_busy (put_at slots t.id what) ≡ count is_busy slots = omega (arith, put) in kept ∙ s.client_opening;
      server_opening = s.server_opening;
    }

-- ---- each step, and all of them

pub in_step_happens : (w : World) (x : Step) → IsPaired w → IsInStep w → IsInStep (happens w x)
in_step_happens w (Send k) p s = in_step_sent w k (ticket_for w.client k) p s refl
in_step_happens w Deliver_up p s = in_step_delivered_up w w.up p s refl
in_step_happens w (Answer id o) p s = in_step_responded w id o (answer_of w.server id o) p s refl
in_step_happens w Push p s = in_step_pushed w s
in_step_happens w Deliver_down p s = in_step_delivered_down w w.down p s refl
in_step_happens w (Cancel t) p s = in_step_cancelled w t (cancels w.client t) s refl

pub in_step_run : (steps : List Step) (w : World) → IsPaired w → IsInStep w → IsInStep (run steps w)
in_step_run [] w p s = s
in_step_run (x ∷ steps) w p s = in_step_run steps (happens w x) (paired_happens w x p) (in_step_happens w x p s)

-- ---- no message is refused

next_kept : (w : World) (ms : List (Message Request)) → IsPaired w → IsInStep w → w.up ≡ ms → IfNext ms (λ m. IsOk (accept_of w.server m.seen))
next_kept w [] p s e = tt
next_kept w (m ∷ rest) p s e = subst (λ (r : Result RequestKind ServerRefusal). IsOk r) (sym (next_goes w m rest p s e)) refl

pub none_refused : (w : World) → IsPaired w → IsInStep w → NoneIsRefused w
none_refused w p s = record { up = next_kept w w.up p s refl; down = replies_taken w p }

next_taken : (w : World) (ms : List (Message Request)) → IsPaired w → IsInStep w → w.up ≡ ms → IfNext ms (λ m. accept_of w.server m.seen ≡ Ok m.tag.kind)
next_taken w [] p s e = tt
next_taken w (m ∷ rest) p s e = next_goes w m rest p s e

-- the next message is accepted as the request that it is
pub taken_as_sent : (w : World) → IsPaired w → IsInStep w → IfNext w.up (λ m. accept_of w.server m.seen ≡ Ok m.tag.kind)
taken_as_sent w p s = next_taken w w.up p s refl
