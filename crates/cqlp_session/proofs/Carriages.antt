-- Each open request of a client's core has the value that was given with it.
use Rattle.std.proofs.Common.{◌≡◌, ◌≢◌, ℕ, suc, ◌≤◌, Bool, true, false, List, [], ◌∷◌, Option, Some, None, Ok, Err, Result, cond, arith, refl, ap, ◌∙◌, sym, subst, inl, inr, ℤ}
use Rattle.std.specs.Prelude.{is_none, option_map, Contains, IfOk}
use Rattle.std.specs.List.{AllByRecursion}
use Rattle.std.proofs.lemmas.Bool.{cases_Bool}
use Rattle.cqlp_session.specs.declared.kind.RequestKind.{RequestKind}
use Rattle.cqlp_session.specs.declared.streams.OpenRequest.{OpenRequest}
use Rattle.cqlp_session.specs.declared.ticket.Ticket.{Ticket}
use Rattle.cqlp_session.specs.declared.ticket.Reply.{Reply}
use Rattle.cqlp_session.specs.declared.ticket.Reply.TheVariants as reply
use Rattle.cqlp_session.specs.declared.ticket.BeginError.{BeginError}
use Rattle.cqlp_session.specs.declared.ticket.Stray.{Stray}
use Rattle.cqlp_session.specs.Kind.{answers}
use Rattle.cqlp_session.specs.Signal.{Signal, is_pushed}
use Rattle.cqlp_session.specs.Slots.{has_slot, put, under}
use Rattle.cqlp_session.specs.Carried.{ConformWith, handed_out, kept}
use Rattle.cqlp_session.specs.Carriage.{Carriage, ClientCall, Begin, Reply_to, Cancel, HaveOtherTickets, IsGivenUnder, IsReturned, ValuesComeBack, after_call, after_calls, empty_carriage, given_under}
use Rattle.cqlp_session.specs.Client.{ClientCore, begun, cancelled, cancels, closed, marked, replied, reply_for, reply_to, ticket_for}
use Rattle.cqlp_session.proofs.Paired.{ticket_found}
use Rattle.cqlp_session.proofs.Progress.{answer_to, begun_conforms, cancelled_conforms, event_only, has_sized, is_to_request, none_either, replied_open, replied_conforms, conform_empty, under_put}
use Rattle.cqlp_session.proofs.Under.{PairsByRecursion, all_pairs, cases_int, each_weaker, none_is, under_new, under_put_other, under_put_same}

contains_first : {X : Type 0} (x : X) (xs : List X) → Contains (x ∷ xs) x
contains_first x xs = (0, omega arith, refl)

contains_later : {X : Type 0} (x y : X) (xs : List X) → Contains xs y → Contains (x ∷ xs) y
contains_later x y xs c = (suc c.0, omega (arith, c.1), c.2)

-- What holds of a carriage after each call.
pub record Carries {T : Type 0} (w : Carriage T) : Type 0 where
  pub conforms : ConformWith w.client.core.slots w.client.carried
  pub given : (id : ℤ) (o : OpenRequest) → under w.client.core.slots id ≡ Some o → IsGivenUnder w.given (record { id = id; number = o.number }) (under w.client.carried id)
  pub numbers : AllByRecursion (λ g. g.0.number ≤ w.client.core.begun) w.given
  pub apart : PairsByRecursion HaveOtherTickets w.given

-- the same value under a ticket with the same id and number, in what is under the same id
renamed : {T : Type 0} (given : List (Ticket × T)) (t u : Ticket) (a b : Option T) → t ≡ u → b ≡ a → IsGivenUnder given t a → IsGivenUnder given u b
renamed given t u a b same stays h = record {
  value = h.value;
  carried_is = stays ∙ h.carried_is;
  given_is = subst (λ q. Contains given (q, h.value)) same h.given_is;
}

kept_given : {T : Type 0} (given : List (Ticket × T)) (g : Ticket × T) (t : Ticket) (a b : Option T) → b ≡ a → IsGivenUnder given t a → IsGivenUnder (g ∷ given) t b
kept_given given g t a b stays h = record {
  value = h.value;
  carried_is = stays ∙ h.carried_is;
  given_is = contains_later g (t, h.value) given h.given_is;
}

same_number : (a b : OpenRequest) → ◌≡◌ {A = Option OpenRequest} (Some a) (Some b) → a.number ≡ b.number
same_number a b e = let same : a ≡ b = cc in ap (λ (o : OpenRequest). o.number) same

-- ---- begin

carries_begun : {T : Type 0} (w : Carriage T) (k : RequestKind) (value : T) (r : Result Ticket BeginError) → ticket_for w.client.core k ≡ r → Carries w → Carries (record { client = record { core = begun w.client.core k r; carried = kept w.client.carried value r }; given = given_under value r w.given })
carries_begun w k value (Err why) is p = p
carries_begun {T} w k value (Ok t) is p =
    let slots = w.client.core.slots in
    let carried = w.client.carried in
    let at = ticket_found w.client.core k t is in
    let entry : OpenRequest = record { number = t.number; kind = k; cancelled = false } in
    record {
      conforms = begun_conforms w.client.core k carried value (Ok t) p.conforms;
      given = λ id o e. elim (cases_int id t.id) [
        | inl same ↦
            let there = sym (under_put_same slots t.id (Some entry) at.has) ∙ ap (under (put slots t.id (Some entry))) (sym same) ∙ e in
            let number = same_number entry o there in
            let ticket : t ≡ (record { id = id; number = o.number }) = λ i. record { id = sym same i; number = number i } in
            record {
              value = value;
              carried_is = ap (under (put carried t.id (Some value))) same ∙ under_put_same carried t.id (Some value) (has_sized carried slots t.id p.conforms.size ∙ at.has);
              given_is = subst (λ (q : Ticket). Contains ((t, value) ∷ w.given) (q, value)) ticket (contains_first (t, value) w.given);
            }
        | inr ne ↦ kept_given w.given (t, value) (record { id = id; number = o.number }) (under carried id) (under (put carried t.id (Some value)) id) (under_put_other carried t.id id (Some value) ne) (p.given id o (sym (under_put_other slots t.id id (Some entry) ne) ∙ e))
      ];
      numbers = (omega arith, each_weaker _ _ w.given (λ g h. omega (arith, h, at.number)) p.numbers);
      apart = (each_weaker _ _ w.given (λ g h e. absurd (omega (arith, h, at.number, e))) p.numbers, p.apart);
    }

-- ---- reply

gone : (slots : List (Option OpenRequest)) (id : ℤ) (o : OpenRequest) → under (put slots id None) id ≡ Some o → ⊥
gone slots id o e =
    let none = ap (λ (q : Option OpenRequest). is_none q) (under_put slots id None) ∙ none_either OpenRequest (has_slot slots id) in
    absurd (cc none)

given_closed : {T : Type 0} (w : Carriage T) (id : ℤ) (slots : List (Option OpenRequest)) → ((other : ℤ) (o : OpenRequest) → under slots other ≡ Some o → (other ≢ id) × (under w.client.core.slots other ≡ Some o)) → Carries w → (other : ℤ) (o : OpenRequest) → under slots other ≡ Some o → IsGivenUnder w.given (record { id = other; number = o.number }) (under (put w.client.carried id None) other)
given_closed w id slots was p other o e =
    let before = was other o e in
    let ticket : Ticket = record { id = other; number = o.number } in
    renamed w.given ticket ticket (under w.client.carried other) (under (put w.client.carried id None) other) refl (under_put_other w.client.carried id other None before.0) (p.given other o before.1)

was_open : (slots : List (Option OpenRequest)) (id other : ℤ) (o : OpenRequest) → under (put slots id None) other ≡ Some o → (other ≢ id) × (under slots other ≡ Some o)
was_open slots id other o e = elim (cases_int other id) [
  | inl same ↦ absurd (gone slots id o (ap (under (put slots id None)) (sym same) ∙ e))
  | inr ne ↦ (ne, sym (under_put_other slots id other None ne) ∙ e)
]

was_other : (slots : List (Option OpenRequest)) (id other : ℤ) (o : OpenRequest) → is_none (under slots id) ≡ true → under slots other ≡ Some o → (other ≢ id) × (under slots other ≡ Some o)
was_other slots id other o free e = (λ same. let some = ap (under slots) (sym same) ∙ e in absurd (cc (free, some)), e)

carries_closed : {T : Type 0} (w : Carriage T) (s : Signal) (slot : Option OpenRequest) → is_none slot ≡ false → ConformWith (closed w.client.core s slot).slots (put w.client.carried s.stream None) → Carries w → Carries (record { client = record { core = closed w.client.core s slot; carried = put w.client.carried s.stream None }; given = w.given })
carries_closed w s None some conforms p = cc
carries_closed w s (Some o) some conforms p = record {
  conforms = conforms;
  given = given_closed w s.stream (put w.client.core.slots s.stream None) (was_open w.client.core.slots s.stream) p;
  numbers = p.numbers;
  apart = p.apart;
}

carries_replied : {T : Type 0} (w : Carriage T) (s : Signal) (r : Result Reply Stray) → reply_to w.client.core s ≡ r → Carries w → Carries (record { client = record { core = replied w.client.core s r; carried = handed_out w.client.carried s.stream r }; given = w.given })
carries_replied w s (Err why) is p = p
carries_replied w s (Ok reply.ServerEvent) is p = record {
  conforms = replied_conforms w.client.core s w.client.carried (Ok reply.ServerEvent) is p.conforms;
  given = given_closed w s.stream w.client.core.slots (λ other o e. was_other w.client.core.slots s.stream other o (replied_open w.client.core s reply.ServerEvent is) e) p;
  numbers = p.numbers;
  apart = p.apart;
}
carries_replied w s (Ok (reply.Answer t k)) is p = carries_closed w s (under w.client.core.slots s.stream) (replied_open w.client.core s (reply.Answer t k) is) (replied_conforms w.client.core s w.client.carried (Ok (reply.Answer t k)) is p.conforms) p
carries_replied w s (Ok (reply.Dropped t)) is p = carries_closed w s (under w.client.core.slots s.stream) (replied_open w.client.core s (reply.Dropped t) is) (replied_conforms w.client.core s w.client.carried (Ok (reply.Dropped t)) is p.conforms) p

-- ---- cancel

-- a request that is marked as given up was open before, under the same number
record WasOpen (slot : Option OpenRequest) (o : OpenRequest) : Type 0 where
  pub before : OpenRequest
  pub there : slot ≡ Some before
  pub number : before.number ≡ o.number

unmarked : (slot : Option OpenRequest) (o : OpenRequest) → option_map marked slot ≡ Some o → WasOpen slot o
unmarked None o e = cc
unmarked (Some q) o e = record { before = q; there = refl; number = same_number (marked q) o e }

marked_was : (slots : List (Option OpenRequest)) (id : ℤ) (o : OpenRequest) → under (put slots id (option_map marked (under slots id))) id ≡ Some o → WasOpen (under slots id) o
marked_was slots id o e =
    let what = option_map marked (under slots id) in
    elim (cases_Bool (has_slot slots id)) [
      | inl has ↦ unmarked (under slots id) o (sym (under_put_same slots id what has) ∙ e)
      | inr hasnt ↦
          let past = under_put slots id what ∙ ap (λ b. cond b what None) hasnt in
          absurd (cc (past, e))
    ]

carries_cancelled : {T : Type 0} (w : Carriage T) (t : Ticket) (given_up : Bool) → Carries w → Carries (record { client = record { core = cancelled w.client.core t given_up; carried = w.client.carried }; given = w.given })
carries_cancelled w t false p = p
carries_cancelled w t true p =
    let slots = w.client.core.slots in
    let what = option_map marked (under slots t.id) in
    record {
      conforms = cancelled_conforms w.client.core t w.client.carried true p.conforms;
      given = λ id o e. elim (cases_int id t.id) [
        | inl same ↦
            let was = marked_was slots t.id o (ap (under (put slots t.id what)) (sym same) ∙ e) in
            let there = ap (under slots) same ∙ was.there in
            let ticket : ◌≡◌ {A = Ticket} (record { id = id; number = was.before.number }) (record { id = id; number = o.number }) = λ i. record { id = id; number = was.number i } in
            renamed w.given _ _ (under w.client.carried id) (under w.client.carried id) ticket refl (p.given id was.before there)
        | inr ne ↦ p.given id o (sym (under_put_other slots t.id id what ne) ∙ e)
      ];
      numbers = p.numbers;
      apart = p.apart;
    }

-- ---- any calls

pub carries_after : {T : Type 0} (w : Carriage T) (call : ClientCall T) → Carries w → Carries (after_call w call)
carries_after w (Begin k value) p = carries_begun w k value (ticket_for w.client.core k) refl p
carries_after w (Reply_to s) p = carries_replied w s (reply_to w.client.core s) refl p
carries_after w (Cancel t) p = carries_cancelled w t (cancels w.client.core t) p

carries_all : {T : Type 0} (calls : List (ClientCall T)) (w : Carriage T) → Carries w → Carries (after_calls calls w)
carries_all [] w p = p
carries_all (call ∷ calls) w p = carries_all calls (after_call w call) (carries_after w call p)

pub carries_empty : (T : Type 0) (n : ℕ) → Carries {T = T} (empty_carriage n)
carries_empty T n = record {
  conforms = conform_empty n;
  given = λ id o e. absurd (cc (under_new {A = OpenRequest} n id, e));
  numbers = tt;
  apart = tt;
}

-- ---- what a reply hands out

abbrev pub reply_ticket : Reply → Option Ticket
reply_ticket reply.ServerEvent = None
reply_ticket (reply.Answer t k) = Some t
reply_ticket (reply.Dropped t) = Some t

abbrev pub answer_ticket : Result Reply Stray → Option Ticket
answer_ticket (Ok r) = reply_ticket r
answer_ticket (Err why) = None

ticket_reported : (t : Ticket) (k : RequestKind) (fits cancelled : Bool) (r : Reply) → answer_to t k fits cancelled ≡ Ok r → reply_ticket r ≡ Some t
ticket_reported t k true true r e = sym (ap answer_ticket e)
ticket_reported t k true false r e = sym (ap answer_ticket e)
ticket_reported t k false cancelled r e = cc

-- the request that a reply is of
record IsReported (s : Signal) (slot : Option OpenRequest) (r : Reply) : Type 0 where
  pub entry : OpenRequest
  pub there : slot ≡ Some entry
  pub ticket : reply_ticket r ≡ Some (record { id = s.stream; number = entry.number })

reported_for : (s : Signal) (slot : Option OpenRequest) (r : Reply) → reply_for s slot ≡ Ok r → IsReported s slot r
reported_for s None r e = cc
reported_for s (Some o) r e = record { entry = o; there = refl; ticket = ticket_reported (record { id = s.stream; number = o.number }) o.kind (answers o.kind s.opcode) o.cancelled r e }

reported_to : (c : ClientCore) (s : Signal) (r : Reply) → reply_to c s ≡ Ok r → is_to_request r ≡ true → IsReported s (under c.slots s.stream) r
reported_to c s r e one = elim (cases_Bool (is_pushed s)) [
  | inl is ↦ let event = event_only r (rw is at e) in absurd (cc (event, one))
  | inr isnt ↦
      let plain = rw isnt at e in
      elim (cases_Bool s.response) [
        | inl response ↦ reported_for s (under c.slots s.stream) r (rw response at plain)
        | inr request ↦ let refused = rw request at plain in absurd (cc refused)
      ]
]

some_ticket : (t u : Ticket) → ◌≡◌ {A = Option Ticket} (Some t) (Some u) → u ≡ t
some_ticket t u e = cc

given_back : {T : Type 0} (w : Carriage T) (s : Signal) (r : Reply) (t : Ticket) → Carries w → IsReported s (under w.client.core.slots s.stream) r → reply_ticket r ≡ Some t → IsGivenUnder w.given t (under w.client.carried s.stream)
given_back w s r t p reported is =
    renamed w.given (record { id = s.stream; number = reported.entry.number }) t (under w.client.carried s.stream) (under w.client.carried s.stream) (some_ticket t _ (sym is ∙ reported.ticket)) refl (p.given s.stream reported.entry reported.there)

pub returned_for : {T : Type 0} (w : Carriage T) (s : Signal) (r : Result Reply Stray) → reply_to w.client.core s ≡ r → Carries w → IfOk r (IsReturned w.given (under w.client.carried s.stream))
returned_for w s (Err why) e p = tt
returned_for w s (Ok reply.ServerEvent) e p = none_is (under w.client.carried s.stream) (p.conforms.there s.stream ∙ replied_open w.client.core s reply.ServerEvent e)
returned_for w s (Ok (reply.Answer t k)) e p = given_back w s (reply.Answer t k) t p (reported_to w.client.core s (reply.Answer t k) e refl) refl
returned_for w s (Ok (reply.Dropped t)) e p = given_back w s (reply.Dropped t) t p (reported_to w.client.core s (reply.Dropped t) e refl) refl

pub values_come_back : (T : Type 0) (slots : ℕ) (calls : List (ClientCall T)) → ValuesComeBack T slots calls
values_come_back T slots calls =
    let w = after_calls calls (empty_carriage slots) in
    let p = carries_all calls (empty_carriage slots) (carries_empty T slots) in
    record {
      returned = λ s. returned_for w s (reply_to w.client.core s) refl p;
      apart = all_pairs HaveOtherTickets w.given p.apart;
    }
