-- A value is carried under each id under which a request is open, and under no other.
use Rattle.std.proofs.Common.{◌≡◌, ℕ, Bool, true, false, not, List, Option, Some, None, Ok, Err, Result, ◌++◌, length, take, drop, replicate, cond, refl, ap, ◌∙◌, sym, arith, inl, inr, ℤ, pos, negsuc}
use Rattle.std.specs.Prelude.{is_none, ◌&&◌, int_lt, nat_lt, option_map}
use Rattle.std.proofs.lemmas.Bool.{cases_Bool, ltb-false, ltb-true}
use Rattle.std.proofs.lemmas.List.{length-replicate, get_or_past, take_at}
use Rattle.cqlp_note.specs.declared.opcode.Opcode.{Opcode}
use Rattle.cqlp_session.specs.declared.kind.RequestKind.{RequestKind}
use Rattle.cqlp_session.specs.declared.streams.OpenRequest.{OpenRequest}
use Rattle.cqlp_session.specs.declared.ticket.Ticket.{Ticket}
use Rattle.cqlp_session.specs.declared.ticket.Reply.{Reply}
use Rattle.cqlp_session.specs.declared.ticket.Reply.TheVariants as reply
use Rattle.cqlp_session.specs.declared.ticket.BeginError.{BeginError}
use Rattle.cqlp_session.specs.declared.ticket.Stray.{Stray}
use Rattle.cqlp_session.specs.declared.ticket.Stray.TheVariants.{WrongOpcode}
use Rattle.cqlp_session.specs.declared.server.AnswerError.{AnswerError}
use Rattle.cqlp_session.specs.declared.server.ServerRefusal.{ServerRefusal}
use Rattle.cqlp_session.specs.Kind.{answers}
use Rattle.cqlp_session.specs.Signal.{Signal, is_event, is_pushed}
use Rattle.cqlp_session.specs.Slots.{has_slot, put, under}
use Rattle.cqlp_session.specs.Carried.{CarryingClient, ConformWith, handed_out, kept, kept_under, replied_with}
use Rattle.cqlp_session.specs.Client.{ClientCore, begun, cancelled, closed, marked, replied, reply_for, reply_to}
use Rattle.cqlp_session.specs.Server.{ServerCore, accepted, answer_for, answer_of, answered}
use Rattle.cqlp_session.proofs.Under.{cases_int, length_put, under_new, under_put_other, under_put_same}

-- ---- slots

pub under_past : {A : Type 0} (slots : List (Option A)) (id : ℤ) → has_slot slots id ≡ false → under slots id ≡ None
under_past slots (pos i) e = get_or_past slots i None (ltb-false i (length slots) e)
under_past slots (negsuc i) e = refl

pub has_sized : {A B : Type 0} (a : List (Option A)) (b : List (Option B)) (id : ℤ) → length a ≡ length b → has_slot a id ≡ has_slot b id
has_sized a b (pos i) e = ap (nat_lt i) e
has_sized a b (negsuc i) e = refl

-- what is under an id that is written is what is written, or nothing if it has no slot
pub under_put : {A : Type 0} (slots : List (Option A)) (id : ℤ) (what : Option A) → under (put slots id what) id ≡ cond (has_slot slots id) what None
under_put slots id what = elim (cases_Bool (has_slot slots id)) [
  | inl has ↦ under_put_same slots id what has ∙ sym (ap (λ b. cond b what None) has)
  | inr hasnt ↦ under_past (put slots id what) id (has_sized (put slots id what) slots id (length_put slots id what) ∙ hasnt) ∙ sym (ap (λ b. cond b what None) hasnt)
]

pub conform_empty : {A T : Type 0} (n : ℕ) → ConformWith {A = A} {T = T} (replicate n None) (replicate n None)
conform_empty {A} {T} n = record {
  size = length-replicate {A = Option T} n None ∙ sym (length-replicate {A = Option A} n None);
  there = λ id. ap (λ (o : Option T). is_none o) (under_new n id) ∙ sym (ap (λ (o : Option A). is_none o) (under_new n id));
}

both_none : {A T : Type 0} (has : Bool) (what : Option A) (value : Option T) → is_none value ≡ is_none what → is_none (cond has value None) ≡ is_none (cond has what None)
both_none true what value e = e
both_none false what value e = refl

-- a request and its value are put under one id, or are both taken from it
pub conform_put : {A T : Type 0} (slots : List (Option A)) (carried : List (Option T)) (id : ℤ) (what : Option A) (value : Option T) → ConformWith slots carried → is_none value ≡ is_none what → ConformWith (put slots id what) (put carried id value)
conform_put {A} {T} slots carried id what value s e = record {
  size = length_put carried id value ∙ s.size ∙ sym (length_put slots id what);
  there = λ other. elim (cases_int other id) [
    | inl same ↦
        ap (λ i. is_none (under (put carried id value) i)) same
        ∙ ap (λ (o : Option T). is_none o) (under_put carried id value)
        ∙ ap (λ b. is_none (cond b value None)) (has_sized carried slots id s.size)
        ∙ both_none (has_slot slots id) what value e
        ∙ sym (ap (λ (o : Option A). is_none o) (under_put slots id what))
        ∙ sym (ap (λ i. is_none (under (put slots id what) i)) same)
    | inr ne ↦
        ap (λ (o : Option T). is_none o) (under_put_other carried id other value ne)
        ∙ s.there other
        ∙ sym (ap (λ (o : Option A). is_none o) (under_put_other slots id other what ne))
  ];
}

put_negative : {A : Type 0} (slots : List (Option A)) (id : ℤ) (what : Option A) → int_lt id (pos 0) ≡ true → put slots id what ≡ slots
put_negative slots (pos i) what e = absurd (omega (arith, ltb-true i 0 e))
put_negative slots (negsuc i) what e = refl

under_negative : {A : Type 0} (slots : List (Option A)) (id : ℤ) → int_lt id (pos 0) ≡ true → under slots id ≡ None
under_negative slots (pos i) e = absurd (omega (arith, ltb-true i 0 e))
under_negative slots (negsuc i) e = refl

-- ---- the client

-- a reply is one to a request
abbrev pub is_to_request : Reply → Bool
is_to_request reply.ServerEvent = false
is_to_request (reply.Answer t k) = true
is_to_request (reply.Dropped t) = true

pub event_only : (r : Reply) → ◌≡◌ {A = Result Reply Stray} (Ok reply.ServerEvent) (Ok r) → is_to_request r ≡ false
event_only reply.ServerEvent e = refl
event_only (reply.Answer t k) e = cc
event_only (reply.Dropped t) e = cc

-- what is answered where a request is open, and its opcode fits or not
abbrev pub answer_to : Ticket → RequestKind → (fits cancelled : Bool) → Result Reply Stray
answer_to t k fits cancelled = cond fits (Ok (cond cancelled (reply.Dropped t) (reply.Answer t k))) (Err WrongOpcode)

answered_one : (t : Ticket) (k : RequestKind) (fits cancelled : Bool) (r : Reply) → answer_to t k fits cancelled ≡ Ok r → is_to_request r ≡ true
answered_one t k true true reply.ServerEvent e = cc
answered_one t k true false reply.ServerEvent e = cc
answered_one t k false cancelled reply.ServerEvent e = cc
answered_one t k fits cancelled (reply.Answer t' k') e = refl
answered_one t k fits cancelled (reply.Dropped t') e = refl

open_replied : (s : Signal) (o : Option OpenRequest) (r : Reply) → reply_for s o ≡ Ok r → is_none o ≡ not (is_to_request r)
open_replied s None r e = cc
open_replied s (Some o) r e =
    ap not (sym (answered_one (record { id = s.stream; number = o.number }) o.kind (answers o.kind s.opcode) o.cancelled r e))

second : (a b : Bool) → (a && b) ≡ true → b ≡ true
second true b e = e
second false b e = cc

-- a request is open under a reply's id, and none is under an event's
pub replied_open : (c : ClientCore) (s : Signal) (r : Reply) → reply_to c s ≡ Ok r → is_none (under c.slots s.stream) ≡ not (is_to_request r)
replied_open c s r e = elim (cases_Bool (is_pushed s)) [
  | inl is ↦
      let negative = second (s.response && is_event s.opcode) (int_lt s.stream (pos 0)) is in
      ap (λ (o : Option OpenRequest). is_none o) (under_negative c.slots s.stream negative) ∙ ap not (sym (event_only r (rw is at e)))
  | inr isnt ↦
      let plain = rw isnt at e in
      elim (cases_Bool s.response) [
        | inl response ↦ open_replied s (under c.slots s.stream) r (rw response at plain)
        | inr request ↦ let refused = rw request at plain in absurd (cc refused)
      ]
]

pub none_either : (T : Type 0) (has : Bool) → is_none (cond {A = Option T} has None None) ≡ true
none_either T true = refl
none_either T false = refl

-- nothing is taken from an id under which nothing is
conform_cleared : {A T : Type 0} (slots : List (Option A)) (carried : List (Option T)) (id : ℤ) → is_none (under slots id) ≡ true → ConformWith slots carried → ConformWith slots (put carried id None)
conform_cleared {A} {T} slots carried id free s = record {
  size = length_put carried id None ∙ s.size;
  there = λ other. elim (cases_int other id) [
    | inl same ↦
        ap (λ i. is_none (under (put carried id None) i)) same
        ∙ ap (λ (o : Option T). is_none o) (under_put carried id None)
        ∙ none_either T (has_slot carried id)
        ∙ sym free
        ∙ sym (ap (λ i. is_none (under slots i)) same)
    | inr ne ↦ ap (λ (o : Option T). is_none o) (under_put_other carried id other None ne) ∙ s.there other
  ];
}

closed_conforms : {T : Type 0} (c : ClientCore) (s : Signal) (carried : List (Option T)) (o : Option OpenRequest) → is_none o ≡ false → ConformWith c.slots carried → ConformWith (closed c s o).slots (put carried s.stream None)
closed_conforms c s carried None e h = cc
closed_conforms c s carried (Some o) e h = conform_put c.slots carried s.stream None None h refl

pub replied_conforms : {T : Type 0} (c : ClientCore) (s : Signal) (carried : List (Option T)) (r : Result Reply Stray) → reply_to c s ≡ r → ConformWith c.slots carried → ConformWith (replied c s r).slots (handed_out carried s.stream r)
replied_conforms c s carried (Ok reply.ServerEvent) e h = conform_cleared c.slots carried s.stream (replied_open c s reply.ServerEvent e) h
replied_conforms c s carried (Ok (reply.Answer t k)) e h = closed_conforms c s carried (under c.slots s.stream) (replied_open c s (reply.Answer t k) e) h
replied_conforms c s carried (Ok (reply.Dropped t)) e h = closed_conforms c s carried (under c.slots s.stream) (replied_open c s (reply.Dropped t) e) h
replied_conforms c s carried (Err why) e h = h

pub begun_conforms : {T : Type 0} (c : ClientCore) (k : RequestKind) (carried : List (Option T)) (value : T) (r : Result Ticket BeginError) → ConformWith c.slots carried → ConformWith (begun c k r).slots (kept carried value r)
begun_conforms c k carried value (Ok t) h = conform_put c.slots carried t.id (Some (record { number = t.number; kind = k; cancelled = false })) (Some value) h refl
begun_conforms c k carried value (Err why) h = h

none_marked : (o : Option OpenRequest) → is_none (option_map marked o) ≡ is_none o
none_marked None = refl
none_marked (Some o) = refl

marked_under : (slots : List (Option OpenRequest)) (id : ℤ) → is_none (under (put slots id (option_map marked (under slots id))) id) ≡ is_none (under slots id)
marked_under slots id =
    let what = option_map marked (under slots id) in
    elim (cases_Bool (has_slot slots id)) [
      | inl has ↦ ap (λ (o : Option OpenRequest). is_none o) (under_put_same slots id what has) ∙ none_marked (under slots id)
      | inr hasnt ↦
          ap (λ (o : Option OpenRequest). is_none o) (under_past (put slots id what) id (has_sized (put slots id what) slots id (length_put slots id what) ∙ hasnt))
          ∙ sym (ap (λ (o : Option OpenRequest). is_none o) (under_past slots id hasnt))
    ]

pub cancelled_conforms : {T : Type 0} (c : ClientCore) (t : Ticket) (carried : List (Option T)) (given_up : Bool) → ConformWith c.slots carried → ConformWith (cancelled c t given_up).slots carried
cancelled_conforms c t carried true h =
    let what = option_map marked (under c.slots t.id) in
    record {
      size = h.size ∙ sym (length_put c.slots t.id what);
      there = λ id. h.there id ∙ sym (elim (cases_int id t.id) [
        | inl same ↦ ap (λ i. is_none (under (put c.slots t.id what) i)) same ∙ marked_under c.slots t.id ∙ sym (ap (λ i. is_none (under c.slots i)) same)
        | inr ne ↦ ap (λ (o : Option OpenRequest). is_none o) (under_put_other c.slots t.id id what ne)
      ]);
    }
cancelled_conforms c t carried false h = h

-- ---- what is carried, where it was written through a slice

through : {A T : Type 0} (slots : List (Option A)) (items new : List (Option T)) (n : ℕ) → n ≡ length items → length new ≡ length items → ConformWith slots new → ConformWith slots (take n (new ++ drop (length new) items))
through slots items new n size same h = rw (take_at new (drop (length new) items) n (same ∙ sym size)) h

pub begun_through : {T : Type 0} (old core : ClientCore) (k : RequestKind) (items new : List (Option T)) (n : ℕ) (value : T) (t : Ticket) → ConformWith old.slots items → core ≡ begun old k (Ok t) → new ≡ put items t.id (Some value) → n ≡ length items → ConformWith core.slots (take n (new ++ drop (length new) items))
begun_through old core k items new n value t h after written size =
    through core.slots items new n size (ap length written ∙ length_put items t.id (Some value)) (rw (after, written) (begun_conforms old k items value (Ok t) h))

pub replied_through : {T : Type 0} (old core : ClientCore) (s : Signal) (items new : List (Option T)) (n : ℕ) (r : Reply) → ConformWith old.slots items → reply_to old s ≡ Ok r → core ≡ replied old s (Ok r) → new ≡ put items s.stream None → n ≡ length items → ConformWith core.slots (take n (new ++ drop (length new) items))
replied_through old core s items new n r h reported after written size =
    through core.slots items new n size (ap length written ∙ length_put items s.stream None) (rw (after, written) (replied_conforms old s items (Ok r) reported h))

pub replied_view : {T : Type 0} (old : CarryingClient T) (core : ClientCore) (s : Signal) (new : List (Option T)) (n : ℕ) (r : Reply) → reply_to old.core s ≡ Ok r → core ≡ replied old.core s (Ok r) → new ≡ put old.carried s.stream None → n ≡ length old.carried
    → ◌≡◌ {A = CarryingClient T} (record { core = core; carried = take n (new ++ drop (length new) old.carried) }) (replied_with old s)
replied_view {T} old core s new n r reported after written size =
    let through_it = take_at new (drop (length new) old.carried) n (ap length written ∙ length_put old.carried s.stream None ∙ sym size) in
    let both : ◌≡◌ {A = CarryingClient T} (record { core = core; carried = take n (new ++ drop (length new) old.carried) }) (record { core = replied old.core s (Ok r); carried = put old.carried s.stream None }) =
    λ i. record { core = after i; carried = (through_it ∙ written) i } in
    both ∙ ap (λ (q : Result Reply Stray). record { core = replied old.core s q; carried = handed_out old.carried s.stream q }) (sym reported)

-- ---- the server

pub accepted_conforms : {T : Type 0} (c : ServerCore) (s : Signal) (carried : List (Option T)) (value : T) (r : Result RequestKind ServerRefusal) → ConformWith c.slots carried → ConformWith (accepted c s r).slots (kept_under carried s.stream value r)
accepted_conforms c s carried value (Ok k) h = conform_put c.slots carried s.stream (Some k) (Some value) h refl
accepted_conforms c s carried value (Err why) h = h

pub answered_conforms : {T : Type 0} (c : ServerCore) (id : ℤ) (o : Opcode) (carried : List (Option T)) (r : Result RequestKind AnswerError) → ConformWith c.slots carried → ConformWith (answered c id o r).slots (handed_out carried id r)
answered_conforms c id o carried (Ok k) h = conform_put c.slots carried id None None h refl
answered_conforms c id o carried (Err why) h = h

open_answered : (o : Opcode) (slot : Option RequestKind) (k : RequestKind) → answer_for o slot ≡ Ok k → is_none slot ≡ false
open_answered o None k e = cc
open_answered o (Some kind) k e = refl

-- a request is open under an id that is answered
pub answered_open : (c : ServerCore) (id : ℤ) (o : Opcode) (k : RequestKind) → answer_of c id o ≡ Ok k → is_none (under c.slots id) ≡ false
answered_open c id o k e = open_answered o (under c.slots id) k e

pub accepted_through : {T : Type 0} (old core : ServerCore) (s : Signal) (items new : List (Option T)) (n : ℕ) (value : T) (k : RequestKind) → ConformWith old.slots items → core ≡ accepted old s (Ok k) → new ≡ put items s.stream (Some value) → n ≡ length items → ConformWith core.slots (take n (new ++ drop (length new) items))
accepted_through old core s items new n value k h after written size =
    through core.slots items new n size (ap length written ∙ length_put items s.stream (Some value)) (rw (after, written) (accepted_conforms old s items value (Ok k) h))

pub answered_through : {T : Type 0} (old core : ServerCore) (id : ℤ) (o : Opcode) (items new : List (Option T)) (n : ℕ) (k : RequestKind) → ConformWith old.slots items → core ≡ answered old id o (Ok k) → new ≡ put items id None → n ≡ length items → ConformWith core.slots (take n (new ++ drop (length new) items))
answered_through old core id o items new n k h after written size =
    through core.slots items new n size (ap length written ∙ length_put items id None) (rw (after, written) (answered_conforms old id o items (Ok k) h))
