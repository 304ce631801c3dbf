-- A client and a server that talk over one connection: two cores, and an ordered wire each way.
use Rattle.std.specs.Prelude.{ℕ, ◌==◌, true, false, not, List, [], ◌∷◌, ◌++◌, filter, find, ℤ, negsuc, Option, Some, None}
use Rattle.std.specs.Prelude.{option_map, Result, Ok, Err}
use Rattle.std.specs.Ordering.{int_eq}
use Rattle.cqlp_note.specs.declared.opcode.Opcode.{Opcode}
use Rattle.cqlp_note.specs.declared.opcode.Opcode.TheVariants.{Event}
use Rattle.cqlp_session.specs.declared.kind.RequestKind.{RequestKind}
use Rattle.cqlp_session.specs.declared.ticket.Ticket.{Ticket}
use Rattle.cqlp_session.specs.declared.ticket.BeginError.{BeginError}
use Rattle.cqlp_session.specs.declared.server.ServerRefusal.{ServerRefusal}
use Rattle.cqlp_session.specs.declared.server.AnswerError.{AnswerError}
use Rattle.cqlp_session.specs.Kind.{opcode_of}
use Rattle.cqlp_session.specs.Signal.{Signal}
use Rattle.cqlp_session.specs.Client.{ClientCore, begun, cancelled, cancels, new_client, replied, reply_to, ticket_for}
use Rattle.cqlp_session.specs.Server.{ServerCore, accept_of, accepted, answer_of, answered, new_server}

-- a request that began: its ticket and its kind
pub record Request : Type 0 where
  pub ticket : Ticket
  pub kind : RequestKind

-- A message on a wire: what a core sees of it, and a tag that neither core sees.
pub record Message (Tag : Type 0) : Type 0 where
  pub seen : Signal
  pub tag : Tag

-- Two cores and what is between them. On the wire up are requests, each tagged with itself. On the wire down are
-- responses, each tagged with the request that it answers, and events with no tag. Beside them is what happened:
-- the messages that the server accepted, the last first; the requests whose response was not delivered to the client
-- yet; and those that the server accepted and has not answered yet.
pub record World : Type 0 where
  pub client : ClientCore
  pub server : ServerCore
  pub up : List (Message Request)
  pub down : List (Message (Option Request))
  pub taken : List (Message Request)
  pub waiting : List Request
  pub serving : List Request

-- two new cores, and nothing on the wires
abbrev pub start : (client_slots server_slots : ℕ) → World
start c s = record {
  client = new_client c;
  server = new_server s;
  up = [];
  down = [];
  taken = [];
  waiting = [];
  serving = [];
}

-- what may happen next
pub data Step : Type 0 where
  Send : RequestKind → Step
  Deliver_up : Step
  Answer : (id : ℤ) → Opcode → Step
  Push : Step
  Deliver_down : Step
  Cancel : Ticket → Step

-- ---- Send: the client begins a request, which goes up.

-- a request on the wire
abbrev pub request_message : Request → Message Request
request_message r = record {
  seen = record { response = false; stream = r.ticket.id; opcode = opcode_of r.kind };
  tag = r;
}

abbrev pub sent : World → RequestKind → Result Ticket BeginError → World
sent w k (Ok t) =
    let r : Request = record { ticket = t; kind = k } in
    record w { client = begun w.client k (Ok t); up = w.up ++ request_message r ∷ []; waiting = r ∷ w.waiting }
sent w k (Err e) = w

-- ---- Deliver_up: the first message on the wire comes to the server. One that is refused is lost.

abbrev pub taken_in : World → Message Request → List (Message Request) → Result RequestKind ServerRefusal → World
taken_in w m rest (Ok k) = record w {
  server = accepted w.server m.seen (Ok k);
  up = rest;
  taken = m ∷ w.taken;
  serving = m.tag ∷ w.serving;
}
taken_in w m rest (Err e) = record w { up = rest }

abbrev pub delivered_up : World → List (Message Request) → World
delivered_up w [] = w
delivered_up w (m ∷ rest) = taken_in w m rest (accept_of w.server m.seen)

-- ---- Answer: the server answers the request under an id, and the answer goes down. Its tag is the request that was
-- last accepted under that id.

abbrev pub last_under : ℤ → List (Message Request) → Option Request
last_under id taken = option_map (λ m. m.tag) (find (λ m. int_eq m.seen.stream id) taken)

-- an answer on the wire
abbrev pub answer_message : ℤ → Opcode → Option Request → Message (Option Request)
answer_message id o r = record { seen = record { response = true; stream = id; opcode = o }; tag = r }

-- the requests but one, which is known by its number
abbrev pub without : Option Request → List Request → List Request
without None rs = rs
without (Some r) rs = filter (λ q. not (q.ticket.number == r.ticket.number)) rs

abbrev pub responded : World → ℤ → Opcode → Result RequestKind AnswerError → World
responded w id o (Ok k) =
    let r = last_under id w.taken in
    record w {
      server = answered w.server id o (Ok k);
      down = w.down ++ answer_message id o r ∷ [];
      serving = without r w.serving;
    }
responded w id o (Err e) = w

-- ---- Push: an event goes down.

abbrev pub event_message : Message (Option Request)
event_message = record { seen = record { response = true; stream = negsuc 0; opcode = Event }; tag = None }

-- ---- Deliver_down: the first message on the wire comes to the client.

abbrev pub delivered_down : World → List (Message (Option Request)) → World
delivered_down w [] = w
delivered_down w (m ∷ rest) = record w {
  client = replied w.client m.seen (reply_to w.client m.seen);
  down = rest;
  waiting = without m.tag w.waiting;
}

-- the world after one step
abbrev pub happens : World → Step → World
happens w (Send k) = sent w k (ticket_for w.client k)
happens w Deliver_up = delivered_up w w.up
happens w (Answer id o) = responded w id o (answer_of w.server id o)
happens w Push = record w { down = w.down ++ event_message ∷ [] }
happens w Deliver_down = delivered_down w w.down
happens w (Cancel t) = record w { client = cancelled w.client t (cancels w.client t) }

-- the world after these steps
abbrev pub run : List Step → World → World
run [] w = w
run (s ∷ steps) w = run steps (happens w s)
