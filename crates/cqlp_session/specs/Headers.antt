-- The headers of requests and of responses (section 2 of native_protocol_v4.spec).
use Rattle.std.specs.Prelude.{◌≡◌, ℕ, ◌≤◌, ℤ, negsuc, true, false, Option, Some, Result, Ok, IfOk}
use Rattle.std.specs.Result.{result_map_both}
use Rattle.cqlp_note.specs.declared.header.Header.{Header}
use Rattle.cqlp_note.specs.declared.opcode.Opcode.{Opcode}
use Rattle.cqlp_note.specs.declared.opcode.Opcode.TheVariants.{Event}
use Rattle.cqlp_session.specs.declared.body.Body.{Body}
use Rattle.cqlp_session.specs.declared.kind.RequestKind.{RequestKind}
use Rattle.cqlp_session.specs.declared.server.AnswerError.{AnswerError}
use Rattle.cqlp_session.specs.declared.ticket.Ticket.{Ticket}
use Rattle.cqlp_session.specs.declared.ticket.Reply.TheVariants.{ServerEvent}
use Rattle.cqlp_session.specs.Carried.{CarryingServer}
use Rattle.cqlp_session.specs.Client.{ClientCore, reply_to}
use Rattle.cqlp_session.specs.Kind.{opcode_of}
use Rattle.cqlp_session.specs.Pairing.{AfterAnySteps, IfNext}
use Rattle.cqlp_session.specs.Server.{accept_of, answer_of}
use Rattle.cqlp_session.specs.Signal.{signal_of}
use Rattle.cqlp_session.specs.Slots.{under}
use Rattle.cqlp_session.specs.World.{Request, answer_message, event_message, request_message}

-- the header of a request of this kind, which began under this ticket
abbrev pub request_header : RequestKind → Ticket → Body → Header
request_header k t b =
    record { response = false; flags = b.flags; stream = t.id; opcode = opcode_of k; length = b.length }

-- the header of a response with this opcode to the request under an id
abbrev pub response_header : ℤ → Opcode → Body → Header
response_header id o b = record { response = true; flags = b.flags; stream = id; opcode = o; length = b.length }

-- the header of an event (section 4.2.6)
abbrev pub event_header : Body → Header
event_header b = record { response = true; flags = b.flags; stream = negsuc 0; opcode = Event; length = b.length }

-- a ticket and the header of its request
abbrev pub with_request_header : {E : Type 0} → RequestKind → Body → Result Ticket E → Result (Ticket × Header) E
with_request_header k b result = result_map_both (λ t. (t, request_header k t b)) (λ why. why) result

-- the header of a response beside what is known of the request
abbrev pub with_response_header : {R E : Type 0} → ℤ → Opcode → Body → Result R E → Result (Header × R) E
with_response_header id o b result = result_map_both (λ r. (response_header id o b, r)) (λ why. why) result

-- what is answered beside a header, but for the value
abbrev pub without_value : {T : Type 0} → Result (Header × RequestKind × T) AnswerError
    → Result (Header × RequestKind) AnswerError
without_value result = result_map_both (λ r. (r.0, r.1)) (λ why. why) result

-- what the clauses of `answer_with` say of its answer, where a value is carried
pub record IsHeaded {T : Type 0} (c : CarryingServer T) (id : ℤ) (o : Opcode) (b : Body)
    (a : Result (Header × RequestKind × T) AnswerError) : Type 0 where
  pub answer : without_value a ≡ with_response_header id o b (answer_of c.core id o)
  pub value : IfOk a (λ answer. Some answer.2 ≡ under c.carried id)

-- two such answers are the same
abbrev pub OneAnswerOfAnswerWith : Type 0 → Type 0
OneAnswerOfAnswerWith T =
    (c : CarryingServer T) (id : ℤ) (o : Opcode) (body : Body) (a b : Result (Header × RequestKind × T) AnswerError)
    → IsHeaded c id o body a → IsHeaded c id o body b → a ≡ b

-- ---- what a core at the other end sees

-- The header of a request is the message that goes up.
abbrev pub RequestsAreSeen : Type 0
RequestsAreSeen = (k : RequestKind) (t : Ticket) (b : Body)
    → signal_of (request_header k t b) ≡ (request_message (record { ticket = t; kind = k })).seen

-- The header of a response is the message that goes down.
abbrev pub ResponsesAreSeen : Type 0
ResponsesAreSeen = (id : ℤ) (o : Opcode) (b : Body) (r : Option Request)
    → signal_of (response_header id o b) ≡ (answer_message id o r).seen

-- The header of an event is the event that is pushed, and a client's core reports it as one, whatever it did before.
abbrev pub EventsAreSeen : Type 0
EventsAreSeen = (c : ClientCore) (b : Body)
    → (signal_of (event_header b) ≡ event_message.seen) × (reply_to c (signal_of (event_header b)) ≡ Ok ServerEvent)

-- A server with at least as many slots as its client takes the next message for the request that it is.
abbrev pub RequestsAreTaken : Type 0
RequestsAreTaken = (client server : ℕ) → client ≤ server
    → AfterAnySteps client server (λ w. IfNext w.up (λ m. accept_of w.server m.seen ≡ Ok m.tag.kind))
