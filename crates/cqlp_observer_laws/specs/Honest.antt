-- What passes one end of the wires between an honest client and an honest server (the cores of cqlp_session), and what an observer there
-- reports of it.
use Rattle.std.specs.Prelude.{◌≡◌, ℕ, ℤ, List, [], ◌∷◌, ◌++◌, map, take, Option, Some, None, Result, Ok, Err, if◌then◌else◌}
use Rattle.cqlp_note.specs.declared.opcode.Opcode.{Opcode}
use Rattle.cqlp_session.specs.declared.kind.RequestKind.{RequestKind}
use Rattle.cqlp_session.specs.declared.server.AnswerError.{AnswerError}
use Rattle.cqlp_session.specs.declared.ticket.BeginError.{BeginError}
use Rattle.cqlp_session.specs.declared.ticket.Ticket.{Ticket}
use Rattle.cqlp_session.specs.Client.{ticket_for}
use Rattle.cqlp_session.specs.Server.{answer_of}
use Rattle.cqlp_session.specs.Signal.{signal_of}
use Rattle.cqlp_session.specs.World.{World, Step, Send, Deliver_up, Answer, Push, Deliver_down, Cancel, Request, Message, answer_message, event_message, happens, last_under, request_message, start}
use Rattle.cqlp_observer.specs.declared.message.Frame.{Frame}
use Rattle.cqlp_observer.specs.declared.message.Message.{Message as Seen}
use Rattle.cqlp_observer.specs.Waiting.{exchanges}

-- A message of either wire: a request with itself as its tag, a response with the request that it answers, an event with none. No core and
-- no observer sees a tag.
abbrev pub Said : Type 0
Said = Message (Option Request)

abbrev pub asked : Message Request → Said
asked m = record { seen = m.seen; tag = Some m.tag }

-- ---- the client's end: requests that it sends, and what is delivered to it

abbrev pub sent : RequestKind → Result Ticket BeginError → List Said
sent k (Ok t) = asked (request_message (record { ticket = t; kind = k })) ∷ []
sent k (Err e) = []

abbrev pub at_client : World → Step → List Said
at_client w (Send k) = sent k (ticket_for w.client k)
at_client w Deliver_up = []
at_client w (Answer id o) = []
at_client w Push = []
at_client w Deliver_down = take 1 w.down
at_client w (Cancel t) = []

-- ---- the server's end: what is delivered to it, its answers and events

abbrev pub responded : World → ℤ → Opcode → Result RequestKind AnswerError → List Said
responded w id o (Ok k) = answer_message id o (last_under id w.taken) ∷ []
responded w id o (Err e) = []

abbrev pub at_server : World → Step → List Said
at_server w (Send k) = []
at_server w Deliver_up = map asked (take 1 w.up)
at_server w (Answer id o) = responded w id o (answer_of w.server id o)
at_server w Push = event_message ∷ []
at_server w Deliver_down = []
at_server w (Cancel t) = []

-- all that passes an end
abbrev pub passing : (World → Step → List Said) → List Step → World → List Said
passing end [] w = []
passing end (s ∷ steps) w = end w s ++ passing end steps (happens w s)

-- ---- the observer sees frames with these headers' directions, ids and opcodes, at whatever offsets and times

abbrev pub IsView : (Said → Frame) → Type 0
IsView view = (m : Said) → signal_of (view m).header ≡ m.seen

abbrev pub viewed : (Said → Frame) → Said → Seen (Option Request)
viewed view m = record { frame = view m; kept = m.tag }

-- each response with the request that it answers, in their order
abbrev pub answer_in : (Said → Frame) → Said → Option Request → List (Seen (Option Request) × Seen (Option Request))
answer_in view m None = []
answer_in view m (Some r) =
    if m.seen.response then (viewed view (asked (request_message r)), viewed view m) ∷ [] else []

abbrev pub answers_in : (Said → Frame) → List Said → List (Seen (Option Request) × Seen (Option Request))
answers_in view [] = []
answers_in view (m ∷ ms) = answer_in view m m.tag ++ answers_in view ms

abbrev pub PairsAt : (World → Step → List Said) → Type 0
PairsAt end =
    (view : Said → Frame) (client_slots server_slots : ℕ) (steps : List Step) → IsView view
    → (let said = passing end steps (start client_slots server_slots) in
    answers_in view said ≡ exchanges (map (viewed view) said))

abbrev pub PairsAsTheClient : Type 0
PairsAsTheClient = PairsAt at_client

abbrev pub PairsAsTheServer : Type 0
PairsAsTheServer = PairsAt at_server
