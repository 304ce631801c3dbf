-- What a server's core that carries values hands out, whatever was done with it before.
use Rattle.std.specs.Prelude.{◌≡◌, ℕ, ℤ, List, [], ◌∷◌, find, Option, Some, Result, Ok, Err, IfOk}
use Rattle.std.specs.Ordering.{int_eq}
use Rattle.cqlp_note.specs.declared.opcode.Opcode.{Opcode}
use Rattle.cqlp_session.specs.declared.kind.RequestKind.{RequestKind}
use Rattle.cqlp_session.specs.declared.server.ServerRefusal.{ServerRefusal}
use Rattle.cqlp_session.specs.Carried.{CarryingServer, accepted_with, answered_with, new_carrying_server}
use Rattle.cqlp_session.specs.Server.{accept_of, answer_of}
use Rattle.cqlp_session.specs.Signal.{Signal}
use Rattle.cqlp_session.specs.Slots.{under}

-- a call of the core
pub data ServerCall (T : Type 0) : Type 0 where
  Accept : Signal → (value : T) → ServerCall T
  Answer_to : (id : ℤ) → Opcode → ServerCall T

-- a request that was accepted: its stream id, its kind, and the value that was given with it
pub record Acceptance (T : Type 0) : Type 0 where
  pub id : ℤ
  pub kind : RequestKind
  pub value : T

-- the core, and the requests that it accepted, the last first
pub record Service (T : Type 0) : Type 0 where
  pub server : CarryingServer T
  pub accepted : List (Acceptance T)

-- what was accepted, once this is answered to `accept`
abbrev pub accepted_under : {T : Type 0} → ℤ → T → Result RequestKind ServerRefusal → List (Acceptance T) → List (Acceptance T)
accepted_under id value (Ok k) accepted = (record { id = id; kind = k; value = value }) ∷ accepted
accepted_under id value (Err why) accepted = accepted

abbrev pub after_server_call : {T : Type 0} → Service T → ServerCall T → Service T
after_server_call w (Accept s value) = record {
  server = accepted_with w.server s value;
  accepted = accepted_under s.stream value (accept_of w.server.core s) w.accepted;
}
after_server_call w (Answer_to id o) = record { server = answered_with w.server id o; accepted = w.accepted }

abbrev pub after_server_calls : {T : Type 0} → List (ServerCall T) → Service T → Service T
after_server_calls [] w = w
after_server_calls (call ∷ calls) w = after_server_calls calls (after_server_call w call)

-- a new core
abbrev pub empty_service : {T : Type 0} → (slots : ℕ) → Service T
empty_service n = record { server = new_carrying_server n; accepted = [] }

-- the request that was last accepted under an id
abbrev pub last_accepted : {T : Type 0} → ℤ → List (Acceptance T) → Option (Acceptance T)
last_accepted id accepted = find (λ a. int_eq a.id id) accepted

-- What is carried is what was given with the request of this kind that was last accepted under this id.
pub record IsOfLast {T : Type 0} (accepted : List (Acceptance T)) (id : ℤ) (k : RequestKind) (carried : Option T) : Type 0 where
  pub value : T
  pub carried_is : carried ≡ Some value
  pub last : last_accepted id accepted ≡ Some (record { id = id; kind = k; value = value })

-- After any calls of a new core, an answer hands out the value that was given with the request that it answers, which is
-- the one that was last accepted under its id.
abbrev pub EachAnswerHasItsValue : Type 0 → Type 0
EachAnswerHasItsValue T = (slots : ℕ) (calls : List (ServerCall T)) (id : ℤ) (o : Opcode)
    → (let w = after_server_calls calls (empty_service slots) in
    IfOk (answer_of w.server.core id o) (λ k. IsOfLast w.accepted id k (under w.server.carried id)))
