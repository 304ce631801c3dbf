-- A client and a server that talk over one connection and carry values with their requests.
use Rattle.std.specs.Prelude.{◌≡◌, ℕ, ℤ, List, [], ◌∷◌, AllPairs, Option, Some, None, IsSomeAnd, Result, IfOk, replicate}
use Rattle.cqlp_note.specs.declared.opcode.Opcode.{Opcode}
use Rattle.cqlp_session.specs.declared.kind.RequestKind.{RequestKind}
use Rattle.cqlp_session.specs.declared.ticket.Reply.{Reply}
use Rattle.cqlp_session.specs.declared.ticket.Stray.{Stray}
use Rattle.cqlp_session.specs.declared.ticket.Ticket.{Ticket}
use Rattle.cqlp_session.specs.Carriage.{HaveOtherTickets, IsGivenUnder, given_under}
use Rattle.cqlp_session.specs.Carried.{handed_out, kept, kept_under}
use Rattle.cqlp_session.specs.Client.{ClientCore, reply_to, ticket_for}
use Rattle.cqlp_session.specs.Pairing.{IfNext, IsReplyAbout}
use Rattle.cqlp_session.specs.Server.{ServerCore, accept_of, answer_of}
use Rattle.cqlp_session.specs.Service.{Acceptance, IsOfLast, accepted_under}
use Rattle.cqlp_session.specs.Slots.{under}
use Rattle.cqlp_session.specs.World.{Message, Request, Step, World, happens, last_under, start}
use Rattle.cqlp_session.specs.World as plain

-- Two cores and two wires, and what each core carries under each id. Beside them is what was given: the value of
-- each request that began, under its ticket; and the requests that the server accepted with theirs, the last first.
pub record CarryingWorld (T U : Type 0) : Type 0 where
  pub cores : World
  pub client_carries : List (Option T)
  pub server_carries : List (Option U)
  pub given : List (Ticket × T)
  pub accepted : List (Acceptance U)

-- two new cores, and nothing on the wires
abbrev pub start_carrying : {T U : Type 0} → (client_slots server_slots : ℕ) → CarryingWorld T U
start_carrying c s = record {
  cores = start c s;
  client_carries = replicate c None;
  server_carries = replicate s None;
  given = [];
  accepted = [];
}

-- what may happen next: a step of a world, with the value that its caller gives
pub data CarryingStep (T U : Type 0) : Type 0 where
  Send : RequestKind → (value : T) → CarryingStep T U
  Deliver_up : (value : U) → CarryingStep T U
  Answer : (id : ℤ) → Opcode → CarryingStep T U
  Push : CarryingStep T U
  Deliver_down : CarryingStep T U
  Cancel : Ticket → CarryingStep T U

-- the step without a value
abbrev pub step_alone : {T U : Type 0} → CarryingStep T U → Step
step_alone (Send k value) = plain.Send k
step_alone (Deliver_up value) = plain.Deliver_up
step_alone (Answer id o) = plain.Answer id o
step_alone Push = plain.Push
step_alone Deliver_down = plain.Deliver_down
step_alone (Cancel t) = plain.Cancel t

-- what the client carries, once the first message on the wire came to it
abbrev pub client_after : {T : Type 0} → ClientCore → List (Option T) → List (Message (Option Request)) → List (Option T)
client_after c carried [] = carried
client_after c carried (m ∷ rest) = handed_out carried m.seen.stream (reply_to c m.seen)

-- what the server carries, and what it accepted, once the first message on the wire came to it with this value
abbrev pub server_after : {U : Type 0} → ServerCore → List (Option U) → U → List (Message Request) → List (Option U)
server_after c carried value [] = carried
server_after c carried value (m ∷ rest) = kept_under carried m.seen.stream value (accept_of c m.seen)

abbrev pub accepted_after : {U : Type 0} → ServerCore → List (Acceptance U) → U → List (Message Request) → List (Acceptance U)
accepted_after c accepted value [] = accepted
accepted_after c accepted value (m ∷ rest) = accepted_under m.seen.stream value (accept_of c m.seen) accepted

-- the world after one step: the cores and the wires move as they do without values
abbrev pub carries_on : {T U : Type 0} → CarryingWorld T U → CarryingStep T U → CarryingWorld T U
carries_on w (Send k value) = record w {
  cores = happens w.cores (plain.Send k);
  client_carries = kept w.client_carries value (ticket_for w.cores.client k);
  given = given_under value (ticket_for w.cores.client k) w.given;
}
carries_on w (Deliver_up value) = record w {
  cores = happens w.cores plain.Deliver_up;
  server_carries = server_after w.cores.server w.server_carries value w.cores.up;
  accepted = accepted_after w.cores.server w.accepted value w.cores.up;
}
carries_on w (Answer id o) = record w {
  cores = happens w.cores (plain.Answer id o);
  server_carries = handed_out w.server_carries id (answer_of w.cores.server id o);
}
carries_on w Push = record w { cores = happens w.cores plain.Push }
carries_on w Deliver_down = record w {
  cores = happens w.cores plain.Deliver_down;
  client_carries = client_after w.cores.client w.client_carries w.cores.down;
}
carries_on w (Cancel t) = record w { cores = happens w.cores (plain.Cancel t) }

-- the world after these steps
abbrev pub run_carrying : {T U : Type 0} → List (CarryingStep T U) → CarryingWorld T U → CarryingWorld T U
run_carrying [] w = w
run_carrying (s ∷ steps) w = run_carrying steps (carries_on w s)

-- ---- what holds after any steps

-- what is handed out with an answer to the message that is delivered next: the value that was given with this request
abbrev pub IsValueOf : {T : Type 0} → List (Ticket × T) → Option T → Option Request → Type 0
IsValueOf given carried None = carried ≡ None
IsValueOf given carried (Some r) = IsGivenUnder given r.ticket carried

-- The reply has the ticket and the kind of the request that its response answers, and hands out the value that was given
-- with this request. An event hands out none. No message is refused.
pub record IsReplyWith {T : Type 0} (given : List (Ticket × T)) (tag : Option Request) (answer : Result Reply Stray) (carried : Option T)
    : Type 0 where
  pub paired : IsReplyAbout tag answer
  pub value : IsValueOf given carried tag

-- The answer hands out the kind of the request that its response is tagged with, and the value with which that request was
-- accepted.
pub record IsAnswerWith {U : Type 0} (w : World) (accepted : List (Acceptance U)) (carried : Option U) (id : ℤ) (k : RequestKind)
    : Type 0 where
  pub paired : IsSomeAnd (last_under id w.taken) (λ r. r.kind ≡ k)
  pub value : IsOfLast accepted id k carried

-- Each core hands out the value that it was given with the request, and no two requests have one ticket.
pub record ValuesArePaired {T U : Type 0} (w : CarryingWorld T U) : Type 0 where
  pub replies : IfNext w.cores.down
      (λ m. IsReplyWith w.given m.tag (reply_to w.cores.client m.seen) (under w.client_carries m.seen.stream))
  pub answers : (id : ℤ) (o : Opcode)
      → IfOk (answer_of w.cores.server id o) (IsAnswerWith w.cores w.accepted (under w.server_carries id) id)
  pub apart : AllPairs HaveOtherTickets w.given

abbrev pub ValuesArePairedAfterAnySteps : (T U : Type 0) → Type 0
ValuesArePairedAfterAnySteps T U = (client server : ℕ) (steps : List (CarryingStep T U))
    → ValuesArePaired (run_carrying steps (start_carrying client server))
