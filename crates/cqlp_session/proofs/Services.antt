-- Each open request of a server's core has the value that was given with it.
use Rattle.std.proofs.Common.{◌≡◌, ◌≢◌, ℕ, true, List, [], ◌∷◌, Option, Some, None, Ok, Err, Result, refl, ap, ◌∙◌, sym, inl, inr, ℤ}
use Rattle.std.specs.Prelude.{is_none, IfOk}
use Rattle.std.proofs.lemmas.Bool.{cases_Bool}
use Rattle.cqlp_note.specs.declared.opcode.Opcode.{Opcode}
use Rattle.cqlp_session.specs.declared.kind.RequestKind.{RequestKind}
use Rattle.cqlp_session.specs.declared.server.AnswerError.{AnswerError}
use Rattle.cqlp_session.specs.declared.server.ServerRefusal.{ServerRefusal}
use Rattle.cqlp_session.specs.Kind.{kind_of}
use Rattle.cqlp_session.specs.Signal.{Signal}
use Rattle.cqlp_session.specs.Slots.{has_slot, put, under}
use Rattle.cqlp_session.specs.Carried.{ConformWith, handed_out, kept_under}
use Rattle.cqlp_session.specs.Server.{ServerCore, accept_kind, accept_of, accepted, answer_of, answered}
use Rattle.cqlp_session.specs.Service.{Acceptance, IsOfLast, Service, ServerCall, Accept, Answer_to, EachAnswerHasItsValue, accepted_under, after_server_call, after_server_calls, empty_service, last_accepted}
use Rattle.cqlp_session.proofs.Paired.{answer_found}
use Rattle.cqlp_session.proofs.Progress.{accepted_conforms, answered_conforms, has_sized, none_either, conform_empty, under_put}
use Rattle.cqlp_session.proofs.Under.{cases_int, int_eq_other, int_eq_same, under_new, under_put_other, under_put_same}

-- What holds of a server's core that carries values, and of what it accepted.
pub record Serves {U : Type 0} (c : ServerCore) (carried : List (Option U)) (taken : List (Acceptance U)) : Type 0 where
  pub conforms : ConformWith c.slots carried
  pub last : (id : ℤ) (k : RequestKind) → under c.slots id ≡ Some k → IsOfLast taken id k (under carried id)

-- a request that is accepted has a slot
has_kind : (c : ServerCore) (id : ℤ) (o : Option RequestKind) (k : RequestKind) → accept_kind c id o ≡ Ok k → has_slot c.slots id ≡ true
has_kind c id None k e = absurd (cc e)
has_kind c id (Some j) k e = elim (cases_Bool (has_slot c.slots id)) [
  | inl has ↦ has
  | inr past ↦ absurd (cc (rw past at e))
]

has_accepted : (c : ServerCore) (s : Signal) (k : RequestKind) → accept_of c s ≡ Ok k → has_slot c.slots s.stream ≡ true
has_accepted c s k e = elim (cases_Bool s.response) [
  | inl response ↦ absurd (cc (rw response at e))
  | inr request ↦ has_kind c s.stream (kind_of s.opcode) k (rw request at e)
]

last_is : {U : Type 0} (taken : List (Acceptance U)) (a : Acceptance U) → last_accepted a.id (a ∷ taken) ≡ Some a
last_is taken a = rw (int_eq_same a.id) refl

last_other : {U : Type 0} (taken : List (Acceptance U)) (a : Acceptance U) (id : ℤ) → a.id ≢ id → last_accepted id (a ∷ taken) ≡ last_accepted id taken
last_other taken a id ne = rw (int_eq_other a.id id ne) refl

some_kind : (a b : RequestKind) → ◌≡◌ {A = Option RequestKind} (Some a) (Some b) → a ≡ b
some_kind a b e = cc

pub serves_accepted : {U : Type 0} (c : ServerCore) (carried : List (Option U)) (taken : List (Acceptance U)) (s : Signal) (value : U) (r : Result RequestKind ServerRefusal) → accept_of c s ≡ r → Serves c carried taken → Serves (accepted c s r) (kept_under carried s.stream value r) (accepted_under s.stream value r taken)
serves_accepted c carried taken s value (Err why) is p = p
serves_accepted {U} c carried taken s value (Ok k) is p =
    let id = s.stream in
    let has = has_accepted c s k is in
    let new : Acceptance U = record { id = id; kind = k; value = value } in
    record {
      conforms = accepted_conforms c s carried value (Ok k) p.conforms;
      last = λ at j there. elim (cases_int at id) [
        | inl same ↦
            let kinds = some_kind k j (sym (under_put_same c.slots id (Some k) has) ∙ sym (ap (under (put c.slots id (Some k))) same) ∙ there) in
            let renamed : ◌≡◌ {A = Acceptance U} new (record { id = at; kind = j; value = value }) = λ i. record { id = sym same i; kind = kinds i; value = value } in
            record {
              value = value;
              carried_is = ap (under (put carried id (Some value))) same ∙ under_put_same carried id (Some value) (has_sized carried c.slots id p.conforms.size ∙ has);
              last = ap (λ i. last_accepted i (new ∷ taken)) same ∙ last_is taken new ∙ ap (λ (a : Acceptance U). Some a) renamed;
            }
        | inr ne ↦
            let before = p.last at j (sym (under_put_other c.slots id at (Some k) ne) ∙ there) in
            record {
              value = before.value;
              carried_is = under_put_other carried id at (Some value) ne ∙ before.carried_is;
              last = last_other taken new at (λ e. ne (sym e)) ∙ before.last;
            }
      ];
    }

gone_kind : (slots : List (Option RequestKind)) (id : ℤ) (k : RequestKind) → under (put slots id None) id ≡ Some k → ⊥
gone_kind slots id k e =
    let none = ap (λ (q : Option RequestKind). is_none q) (under_put slots id None) ∙ none_either RequestKind (has_slot slots id) in
    absurd (cc (e, none))

pub serves_answered : {U : Type 0} (c : ServerCore) (carried : List (Option U)) (taken : List (Acceptance U)) (id : ℤ) (o : Opcode) (r : Result RequestKind AnswerError) → Serves c carried taken → Serves (answered c id o r) (handed_out carried id r) taken
serves_answered c carried taken id o (Err why) p = p
serves_answered c carried taken id o (Ok k) p = record {
  conforms = answered_conforms c id o carried (Ok k) p.conforms;
  last = λ at j there. elim (cases_int at id) [
    | inl same ↦ absurd (gone_kind c.slots id j (sym (ap (under (put c.slots id None)) same) ∙ there))
    | inr ne ↦
        let before = p.last at j (sym (under_put_other c.slots id at None ne) ∙ there) in
        record { value = before.value; carried_is = under_put_other carried id at None ne ∙ before.carried_is; last = before.last }
  ];
}

-- ---- any calls

serves_after : {U : Type 0} (w : Service U) (call : ServerCall U) → Serves w.server.core w.server.carried w.accepted
    → (let v = after_server_call w call in Serves v.server.core v.server.carried v.accepted)
serves_after w (Accept s value) p = serves_accepted w.server.core w.server.carried w.accepted s value (accept_of w.server.core s) refl p
serves_after w (Answer_to id o) p = serves_answered w.server.core w.server.carried w.accepted id o (answer_of w.server.core id o) p

serves_all : {U : Type 0} (calls : List (ServerCall U)) (w : Service U) → Serves w.server.core w.server.carried w.accepted
    → (let v = after_server_calls calls w in Serves v.server.core v.server.carried v.accepted)
serves_all [] w p = p
serves_all (call ∷ calls) w p = serves_all calls (after_server_call w call) (serves_after w call p)

pub serves_new : (U : Type 0) (n : ℕ) → (let w = empty_service {T = U} n in Serves w.server.core w.server.carried w.accepted)
serves_new U n = record { conforms = conform_empty n; last = λ id k e. absurd (cc (under_new {A = RequestKind} n id, e)) }

-- what an answer hands out
pub answer_has : {U : Type 0} (c : ServerCore) (carried : List (Option U)) (taken : List (Acceptance U)) (id : ℤ) (o : Opcode) (r : Result RequestKind AnswerError) → answer_of c id o ≡ r → Serves c carried taken → IfOk r (λ k. IsOfLast taken id k (under carried id))
answer_has c carried taken id o (Err why) is p = tt
answer_has c carried taken id o (Ok k) is p = p.last id k (answer_found c id o k is).there

pub each_answer : (U : Type 0) → EachAnswerHasItsValue U
each_answer U slots calls id o =
    let w = after_server_calls calls (empty_service {T = U} slots) in
    answer_has w.server.core w.server.carried w.accepted id o (answer_of w.server.core id o) refl (serves_all calls (empty_service {T = U} slots) (serves_new U slots))
