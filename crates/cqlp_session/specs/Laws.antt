-- One answer: two answers of `new` that both meet its clauses are the same, where memory was granted to both or to
-- neither. The clauses of the other calls are equations for the answer and for the core that is left, but for those below
-- that hand out a value.
use Rattle.std.specs.Prelude.{◌≡◌, ◌↔◌, ℕ, ◌≤◌, ℤ, false, Option, Some, option_map, IsSome, IfSome, Result, IsErrOf, IfOk}
use Rattle.cqlp_note.specs.declared.header.TheConstants.Header.{LONGEST_BODY}
use Rattle.cqlp_note.specs.declared.opcode.Opcode.{Opcode}
use Rattle.cqlp_note.specs.Heading.{has}
use Rattle.cqlp_session.specs.declared.body.Body.{Body}
use Rattle.cqlp_session.specs.declared.client_of.ReplyOf.{ReplyOf}
use Rattle.cqlp_session.specs.declared.kind.RequestKind.{RequestKind}
use Rattle.cqlp_session.specs.declared.server.AnswerError.{AnswerError}
use Rattle.cqlp_session.specs.declared.ticket.Stray.{Stray}
use Rattle.cqlp_session.specs.declared.refusal.SlotsOrMemory.{SlotsOrMemory}
use Rattle.cqlp_session.specs.declared.refusal.SlotsOrMemory.TheVariants.{NoMemory}
use Rattle.cqlp_session.specs.Slots.{Makes, under}
use Rattle.cqlp_session.specs.Signal.{Signal}
use Rattle.cqlp_session.specs.Carried.{CarryingClient, CarryingServer, answer_alone, kind_alone, new_carrying_client}
use Rattle.cqlp_session.specs.Carried.{new_carrying_server, reply_value}
use Rattle.cqlp_session.specs.Client.{ClientCore, new_client, reply_to}
use Rattle.cqlp_session.specs.Server.{ServerCore, answer_of, new_server}

-- two answers of a call that makes this core
abbrev pub IsOneAnswer : {Core : Type 0} → (slots : ℕ) → Core → (a b : Result Core SlotsOrMemory) → Type 0
IsOneAnswer slots core a b =
    Makes slots core a → Makes slots core b → (IsErrOf a NoMemory ↔ IsErrOf b NoMemory) → a ≡ b

abbrev pub OneAnswerOfClientNew : Type 0
OneAnswerOfClientNew = (slots : ℕ) (a b : Result ClientCore SlotsOrMemory) → IsOneAnswer slots (new_client slots) a b

abbrev pub OneAnswerOfServerNew : Type 0
OneAnswerOfServerNew = (slots : ℕ) (a b : Result ServerCore SlotsOrMemory) → IsOneAnswer slots (new_server slots) a b

abbrev pub OneAnswerOfClientOfNew : Type 0 → Type 0
OneAnswerOfClientOfNew T =
    (slots : ℕ) (a b : Result (CarryingClient T) SlotsOrMemory) → IsOneAnswer slots (new_carrying_client slots) a b

abbrev pub OneAnswerOfServerOfNew : Type 0 → Type 0
OneAnswerOfServerOfNew T =
    (slots : ℕ) (a b : Result (CarryingServer T) SlotsOrMemory) → IsOneAnswer slots (new_carrying_server slots) a b

-- ---- calls that hand out a value

-- what the clauses of `reply` say of its answer
pub record IsReply {T : Type 0} (c : CarryingClient T) (s : Signal) (a : Result (ReplyOf T) Stray) : Type 0 where
  pub answer : answer_alone a ≡ reply_to c.core s
  pub value : IfOk a (λ reply. reply_value reply ≡ under c.carried s.stream)

abbrev pub OneAnswerOfReply : Type 0 → Type 0
OneAnswerOfReply T =
    (c : CarryingClient T) (s : Signal) (a b : Result (ReplyOf T) Stray) → IsReply c s a → IsReply c s b → a ≡ b

-- what the clauses of `answer` say of its answer
pub record IsAnswer {T : Type 0} (c : CarryingServer T) (id : ℤ) (o : Opcode) (a : Result (RequestKind × T) AnswerError)
    : Type 0 where
  pub answer : kind_alone a ≡ answer_of c.core id o
  pub value : IfOk a (λ answer. Some answer.1 ≡ under c.carried id)

abbrev pub OneAnswerOfAnswer : Type 0 → Type 0
OneAnswerOfAnswer T =
    (c : CarryingServer T) (id : ℤ) (o : Opcode) (a b : Result (RequestKind × T) AnswerError)
    → IsAnswer c id o a → IsAnswer c id o b → a ≡ b

-- ---- bodies

-- what the clauses of `Body::new` say of its answer
pub record IsBody (flags length : ℕ) (a : Option Body) : Type 0 where
  pub says : IfSome a (λ body. (body.flags ≡ flags) × (body.length ≡ length))
  pub lawful : IsSome a ↔ ((has flags 0x01 ≡ false) × (length ≤ LONGEST_BODY))

-- a body's flags and its length
abbrev pub body_parts : Body → ℕ × ℕ
body_parts b = (b.flags, b.length)

abbrev pub OneAnswerOfBody : Type 0
OneAnswerOfBody =
    (flags length : ℕ) (a b : Option Body) → IsBody flags length a → IsBody flags length b
    → option_map body_parts a ≡ option_map body_parts b
