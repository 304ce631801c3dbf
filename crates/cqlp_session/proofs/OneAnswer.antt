-- Two answers of a call are the same.
use Rattle.std.proofs.Common.{◌≡◌, ℕ, ℤ, Option, Some, None, Result, Ok, Err, refl, sym, ap, ◌∙◌}
use Rattle.std.specs.Prelude.{option_map}
use Rattle.cqlp_note.specs.declared.header.Header.{Header}
use Rattle.cqlp_note.specs.declared.opcode.Opcode.{Opcode}
use Rattle.cqlp_session.specs.declared.body.Body.{Body}
use Rattle.cqlp_session.specs.declared.client_of.ReplyOf.{ReplyOf}
use Rattle.cqlp_session.specs.declared.client_of.ReplyOf.TheVariants as with_value
use Rattle.cqlp_session.specs.declared.kind.RequestKind.{RequestKind}
use Rattle.cqlp_session.specs.declared.refusal.SlotsOrMemory.{SlotsOrMemory}
use Rattle.cqlp_session.specs.declared.refusal.SlotsOrMemory.TheVariants.{BadSlots, NoMemory}
use Rattle.cqlp_session.specs.declared.server.AnswerError.{AnswerError}
use Rattle.cqlp_session.specs.declared.ticket.Reply.{Reply}
use Rattle.cqlp_session.specs.declared.ticket.Stray.{Stray}
use Rattle.cqlp_session.specs.Carried.{CarryingClient, CarryingServer, reply_alone, reply_value}
use Rattle.cqlp_session.specs.Headers.{IsHeaded}
use Rattle.cqlp_session.specs.Signal.{Signal}
use Rattle.cqlp_session.specs.Laws.{IsAnswer, IsBody, IsOneAnswer, IsReply, body_parts}

module _ {C : Type 0} (slots : ℕ) (core : C) where
  pub one_made : (a b : Result C SlotsOrMemory) → IsOneAnswer slots core a b
  one_made (Ok x) (Ok y) a b memory = ap (λ (z : C). Ok z) (a.new ∙ sym b.new)
  one_made (Ok x) (Err BadSlots) a b memory = a.bad_slots.1 (b.bad_slots.0 refl)
  one_made (Ok x) (Err NoMemory) a b memory = memory.1 refl
  one_made (Err BadSlots) b' a b memory = sym (b.bad_slots.1 (a.bad_slots.0 refl))
  one_made (Err NoMemory) b' a b memory = sym (memory.0 refl)

-- ---- calls that hand out a value

some_same : {T : Type 0} (v w : T) → ◌≡◌ {A = Option T} (Some v) (Some w) → v ≡ w
some_same v w e = cc

module _ {T : Type 0} where
  same_reply : (a b : ReplyOf T) → reply_alone a ≡ reply_alone b → reply_value a ≡ reply_value b → a ≡ b
  same_reply with_value.ServerEvent with_value.ServerEvent alone value = refl
  same_reply with_value.ServerEvent (with_value.Answer u l w) alone value = cc
  same_reply with_value.ServerEvent (with_value.Dropped u w) alone value = cc
  same_reply (with_value.Answer t k v) with_value.ServerEvent alone value = cc
  same_reply (with_value.Answer t k v) (with_value.Answer u l w) alone value = cc
  same_reply (with_value.Answer t k v) (with_value.Dropped u w) alone value = cc
  same_reply (with_value.Dropped t v) with_value.ServerEvent alone value = cc
  same_reply (with_value.Dropped t v) (with_value.Answer u l w) alone value = cc
  same_reply (with_value.Dropped t v) (with_value.Dropped u w) alone value = cc

  pub one_reply : (c : CarryingClient T) (s : Signal) (a b : Result (ReplyOf T) Stray) → IsReply c s a → IsReply c s b → a ≡ b
  one_reply c s (Ok x) (Ok y) a b =
      let alone : ◌≡◌ {A = Result Reply Stray} (Ok (reply_alone x)) (Ok (reply_alone y)) = a.answer ∙ sym b.answer in
      let same : reply_alone x ≡ reply_alone y = cc in
      ap (λ (r : ReplyOf T). Ok r) (same_reply x y same (a.value ∙ sym b.value))
  one_reply c s (Ok x) (Err y) a b =
      let alone : ◌≡◌ {A = Result Reply Stray} (Ok (reply_alone x)) (Err y) = a.answer ∙ sym b.answer in absurd cc
  one_reply c s (Err x) (Ok y) a b =
      let alone : ◌≡◌ {A = Result Reply Stray} (Err x) (Ok (reply_alone y)) = a.answer ∙ sym b.answer in absurd cc
  one_reply c s (Err x) (Err y) a b =
      let alone : ◌≡◌ {A = Result Reply Stray} (Err x) (Err y) = a.answer ∙ sym b.answer in
      let why : x ≡ y = cc in
      ap (λ (e : Stray). Err e) why

  pub one_value : (c : CarryingServer T) (id : ℤ) (o : Opcode) (a b : Result (RequestKind × T) AnswerError) → IsAnswer c id o a → IsAnswer c id o b → a ≡ b
  one_value c id o (Ok x) (Ok y) a b =
      let alone : ◌≡◌ {A = Result RequestKind AnswerError} (Ok x.0) (Ok y.0) = a.answer ∙ sym b.answer in
      let kind : x.0 ≡ y.0 = cc in
      let value = some_same x.1 y.1 (a.value ∙ sym b.value) in
      λ i. Ok (kind i, value i)
  one_value c id o (Ok x) (Err y) a b =
      let alone : ◌≡◌ {A = Result RequestKind AnswerError} (Ok x.0) (Err y) = a.answer ∙ sym b.answer in absurd cc
  one_value c id o (Err x) (Ok y) a b =
      let alone : ◌≡◌ {A = Result RequestKind AnswerError} (Err x) (Ok y.0) = a.answer ∙ sym b.answer in absurd cc
  one_value c id o (Err x) (Err y) a b =
      let alone : ◌≡◌ {A = Result RequestKind AnswerError} (Err x) (Err y) = a.answer ∙ sym b.answer in
      let why : x ≡ y = cc in
      ap (λ (e : AnswerError). Err e) why

module _ {T : Type 0} where
  pub one_headed : (c : CarryingServer T) (id : ℤ) (o : Opcode) (body : Body) (a b : Result (Header × RequestKind × T) AnswerError) → IsHeaded c id o body a → IsHeaded c id o body b → a ≡ b
  one_headed c id o body (Ok x) (Ok y) a b =
      let alone : ◌≡◌ {A = Result (Header × RequestKind) AnswerError} (Ok (x.0, x.1)) (Ok (y.0, y.1)) = a.answer ∙ sym b.answer in
      let same : ◌≡◌ {A = Header × RequestKind} (x.0, x.1) (y.0, y.1) = cc in
      let value = some_same x.2 y.2 (a.value ∙ sym b.value) in
      λ i. Ok ((same i).0, (same i).1, value i)
  one_headed c id o body (Ok x) (Err y) a b =
      let alone : ◌≡◌ {A = Result (Header × RequestKind) AnswerError} (Ok (x.0, x.1)) (Err y) = a.answer ∙ sym b.answer in absurd cc
  one_headed c id o body (Err x) (Ok y) a b =
      let alone : ◌≡◌ {A = Result (Header × RequestKind) AnswerError} (Err x) (Ok (y.0, y.1)) = a.answer ∙ sym b.answer in absurd cc
  one_headed c id o body (Err x) (Err y) a b =
      let alone : ◌≡◌ {A = Result (Header × RequestKind) AnswerError} (Err x) (Err y) = a.answer ∙ sym b.answer in
      let why : x ≡ y = cc in
      ap (λ (e : AnswerError). Err e) why

pub one_body : (flags length : ℕ) (a b : Option Body) → IsBody flags length a → IsBody flags length b → option_map body_parts a ≡ option_map body_parts b
one_body flags length (Some x) (Some y) a b =
    let same_flags = a.says.0 ∙ sym b.says.0 in
    let same_length = a.says.1 ∙ sym b.says.1 in
    λ i. Some (same_flags i, same_length i)
one_body flags length (Some x) None a b = let some = b.lawful.1 (a.lawful.0 refl) in absurd cc
one_body flags length None (Some y) a b = let some = a.lawful.1 (b.lawful.0 refl) in absurd cc
one_body flags length None None a b = refl
