-- A client's core: what each call answers, and what it leaves.
use Rattle.std.specs.Prelude.{ℕ, ◌+◌, ◌-◌, ◌^◌, ◌==◌, nat_lt, Bool, true, false, not, ◌&&◌, if◌then◌else◌, List, Option, Some, None}
use Rattle.std.specs.Prelude.{Result, Ok, Err, option_map, replicate, pos}
use Rattle.cqlp_session.specs.declared.kind.RequestKind.{RequestKind}
use Rattle.cqlp_session.specs.declared.phase.Phase.{Phase as PhaseOf}
use Rattle.cqlp_session.specs.declared.phase.Phase.TheVariants.{Fresh}
use Rattle.cqlp_session.specs.declared.ticket.Ticket.{Ticket}
use Rattle.cqlp_session.specs.declared.ticket.Reply.{Reply}
use Rattle.cqlp_session.specs.declared.ticket.Reply.TheVariants.{ServerEvent, Answer, Dropped}
use Rattle.cqlp_session.specs.declared.ticket.BeginError.{BeginError}
use Rattle.cqlp_session.specs.declared.ticket.BeginError.TheVariants.{Phase, Spent, Full}
use Rattle.cqlp_session.specs.declared.ticket.Stray.{Stray}
use Rattle.cqlp_session.specs.declared.ticket.Stray.TheVariants.{NotResponse, NoSuchStream, WrongOpcode}
use Rattle.cqlp_session.specs.declared.streams.OpenRequest.{OpenRequest}
use Rattle.cqlp_session.specs.Kind.{answers, is_handshake}
use Rattle.cqlp_session.specs.Phase.{may_begin, phase_begun, phase_answered}
use Rattle.cqlp_session.specs.Signal.{Signal, is_pushed}
use Rattle.cqlp_session.specs.Slots.{least_free, put, under}

-- the phase, how many requests have begun, and what is open under each id
pub record ClientCore : Type 0 where
  pub phase : PhaseOf
  pub begun : ℕ
  pub slots : List (Option OpenRequest)

-- a core that is made: nothing has begun
abbrev pub new_client : (slots : ℕ) → ClientCore
new_client n = record { phase = Fresh; begun = 0; slots = replicate n None }

-- ---- begin

-- a ticket with this number and the least free id, if one is free
abbrev pub ticket_under : (number : ℕ) → Option ℕ → Result Ticket BeginError
ticket_under number None = Err Full
ticket_under number (Some i) = Ok (record { id = pos i; number = number })

-- What `begin` answers: the phase has to allow the request, a number has to be left, and an id.
abbrev pub ticket_for : ClientCore → RequestKind → Result Ticket BeginError
ticket_for c k =
    if may_begin c.phase k
    then (if nat_lt c.begun (2 ^ 64 - 1) then ticket_under (c.begun + 1) (least_free c.slots) else Err Spent)
    else Err (Phase c.phase)

-- the core after this answer to `begin`
abbrev pub begun : ClientCore → RequestKind → Result Ticket BeginError → ClientCore
begun c k (Ok t) = record {
  phase = phase_begun c.phase k;
  begun = t.number;
  slots = put c.slots t.id (Some (record { number = t.number; kind = k; cancelled = false }));
}
begun c k (Err e) = c

-- ---- reply

-- what is answered, where this is open under the message's id
abbrev pub reply_for : Signal → Option OpenRequest → Result Reply Stray
reply_for s None = Err NoSuchStream
reply_for s (Some o) =
    let ticket : Ticket = record { id = s.stream; number = o.number } in
    if answers o.kind s.opcode then Ok (if o.cancelled then Dropped ticket else Answer ticket o.kind) else Err WrongOpcode

-- What `reply` answers: an event is reported as one; any other message has to be a response, to a request that is open,
-- which its opcode answers.
abbrev pub reply_to : ClientCore → Signal → Result Reply Stray
reply_to c s =
    if is_pushed s then Ok ServerEvent
    else (if s.response then reply_for s (under c.slots s.stream) else Err NotResponse)

-- the core once the request that is open under this id is answered
abbrev pub closed : ClientCore → Signal → Option OpenRequest → ClientCore
closed c s None = c
closed c s (Some o) =
    record { phase = phase_answered c.phase o.kind s.opcode; begun = c.begun; slots = put c.slots s.stream None }

-- the core after this answer to `reply`
abbrev pub replied : ClientCore → Signal → Result Reply Stray → ClientCore
replied c s (Ok ServerEvent) = c
replied c s (Ok (Answer t k)) = closed c s (under c.slots s.stream)
replied c s (Ok (Dropped t)) = closed c s (under c.slots s.stream)
replied c s (Err e) = c

-- ---- cancel

-- what is open under an id is a request of this number, and may be cancelled
abbrev pub is_cancellable : (number : ℕ) → Option OpenRequest → Bool
is_cancellable number None = false
is_cancellable number (Some o) = (o.number == number) && (not o.cancelled && not (is_handshake o.kind))

-- What `cancel` answers: the ticket's request waits for its reply, is not cancelled yet, and is no STARTUP or
-- AUTH_RESPONSE.
abbrev pub cancels : ClientCore → Ticket → Bool
cancels c t = is_cancellable t.number (under c.slots t.id)

-- the same request, cancelled
abbrev pub marked : OpenRequest → OpenRequest
marked o = record { number = o.number; kind = o.kind; cancelled = true }

-- the core after this answer to `cancel`
abbrev pub cancelled : ClientCore → Ticket → Bool → ClientCore
cancelled c t true =
    record { phase = c.phase; begun = c.begun; slots = put c.slots t.id (option_map marked (under c.slots t.id)) }
cancelled c t false = c
